use Rattle.std.proofs.Common.{◌≡◌, ◌⊎◌, Bool, false, List, ℕ, OnErr, OnOk, None, Result, sym, ap, subst}
use Rattle.committer.specs.Stored.{newest}
use Rattle.srv_edge.specs.Disk.{LeavesOnly}
use Rattle.table_model.specs.Bounds.{bounds_of}
use Rattle.table_model.specs.File.{File, doubt, newest_cut, resolution}
use Rattle.type_store.specs.Commits.{HoldsOne}
use Rattle.type_store.specs.Files.{FileView, IsFile, IsWrittenOver, MayShow, Pending}
use Rattle.type_store.specs.Inside.{cut_in, cuts_of, origin_of, ready_of}
use Rattle.type_store.specs.Writing.{fresh_left}
use Rattle.type_store.specs.declared.commit.DiskFault.{DiskFault}
use Rattle.type_store.specs.declared.writing.Left.{Left}
use Rattle.type_store.proofs.Shown.{shown}
use Rattle.type_store.proofs.Turning.{all_written_over, fails_on, file_left, ready_file, shows_one, takes_base, told_run}
use Rattle.type_store.proofs.file.PdbFile.write.Goals as goal
use Rattle.type_store.proofs.file.PdbFile.write.Goals.{in-Ok, in-Err}

pub invariant_of-self : goal.invariant_of-self
invariant_of-self g c =
    let d = g.D.Device in
    let f = c.self.inside in
    let o = origin_of d.seen f.origin in
    let p : Pending = record { cut = cut_in c.pending.inside.cut; plan = c.pending.inside.prepared } in
    let is = ready_file d.tells d.seen o f.store f.newest.fresh (cuts_of f.before f.newest) f.last (ready_of f.ready) c.args.self.now.ready p c.args.pending c.self.invariant (ap (λ (v : FileView g.row.D.Denot). v.ready) c.self.view_is) c.requires c.pending.view_is in
    let written = c.write_to-written in
    let s = written.new.store in
    subst (λ (b : Bool). IsFile d.tells d.seen o s b (cuts_of c.turn.new.before c.turn.new.newest) f.last None) (sym c.turn.ensures.fresh)
    (subst (λ (x : File). IsFile d.tells d.seen o s (fresh_left f.newest.fresh written.result) x f.last None) (sym c.turn.ensures.cuts)
    (file_left c.commits_write_tables.ensures.held d.tells d.seen o f.store f.newest.fresh (cuts_of f.before f.newest) f.last p is s written.ensures.limit written.result written.ensures.leaves))

pub returns-clause-shown : goal.returns-clause-shown
returns-clause-shown g c = λ image left.
    let d = g.D.Device in
    let s = c.write_to-written.new.store in
    let is = invariant_of-self g c in
    shown (bounds_of c.self.inside.origin.limits) s.limit (d.seen s.device) s.file (cuts_of c.turn.new.before c.turn.new.newest) image is.limit (is.cuts (g.met.D.Device.told s.device image left)) (c.write_to-written.ensures.shows image left)

pub returns-clause-any_moment : goal.returns-clause-any_moment
returns-clause-any_moment g c =
    let d = g.D.Device in
    let f = c.self.inside in
    let o = origin_of d.seen f.origin in
    let p : Pending = record { cut = cut_in c.pending.inside.cut; plan = c.pending.inside.prepared } in
    let is = ready_file d.tells d.seen o f.store f.newest.fresh (cuts_of f.before f.newest) f.last (ready_of f.ready) c.args.self.now.ready p c.args.pending c.self.invariant (ap (λ (v : FileView g.row.D.Denot). v.ready) c.self.view_is) c.requires c.pending.view_is in
    let written = c.write_to-written in
    let s = written.new.store in
    subst (λ (q : Pending). LeavesOnly d.moment d.left_since c.args.self.now.device s.device (HoldsOne c.args.self.now.bounds (MayShow c.args.self.now.file q.cut))) c.pending.view_is
    (subst (λ (v : FileView g.row.D.Denot). LeavesOnly d.moment d.left_since v.device s.device (HoldsOne v.bounds (MayShow v.file p.cut))) c.self.view_is
    (told_run d.moment d.left_since f.store.device s.device d.tells _ (HoldsOne o.bounds (MayShow (cuts_of f.before f.newest) p.cut)) written.ensures.any_moment written.ensures.told
    (shows_one c.commits_write_tables.ensures.held d.tells d.seen o f.store f.newest.fresh (cuts_of f.before f.newest) f.last p is)))

pub returns-clause-written : goal.returns-clause-written
returns-clause-written g c =
    let d = g.D.Device in
    let f = c.self.inside in
    let o = origin_of d.seen f.origin in
    let p : Pending = record { cut = cut_in c.pending.inside.cut; plan = c.pending.inside.prepared } in
    let is = ready_file d.tells d.seen o f.store f.newest.fresh (cuts_of f.before f.newest) f.last (ready_of f.ready) c.args.self.now.ready p c.args.pending c.self.invariant (ap (λ (v : FileView g.row.D.Denot). v.ready) c.self.view_is) c.requires c.pending.view_is in
    let written = c.write_to-written in
    let s = written.new.store in
    let Over = (image : List ℕ) → d.may_leave s.device image → IsWrittenOver c.args.self.now.bounds c.args.self.now.opened image c.args.pending.cut in
    let over : OnOk written.result Over =
    subst (λ (q : Pending). OnOk written.result ((image : List ℕ) → d.may_leave s.device image → IsWrittenOver c.args.self.now.bounds c.args.self.now.opened image q.cut)) c.pending.view_is
    (subst (λ (v : FileView g.row.D.Denot). OnOk written.result ((image : List ℕ) → d.may_leave s.device image → IsWrittenOver v.bounds v.opened image p.cut)) c.self.view_is
    (all_written_over c.commits_write_tables.ensures.held d.tells d.seen o f.store f.newest.fresh (cuts_of f.before f.newest) f.last p is s written.ensures.limit (d.may_leave s.device) written.result written.ensures.leaves written.ensures.only (g.met.D.Device.told s.device) written.ensures.shows)) in
    elim c.match-written.branch [
      | in-Ok w ↦ subst (λ (r : Result ℕ DiskFault). OnOk r Over) (sym w.result-is) (subst (λ (r : Result Unit Left). OnOk r Over) w.in-Ok.is over)
      | in-Err w ↦ subst (λ (r : Result ℕ DiskFault). OnOk r Over) (sym w.result-is) tt
    ]

pub returns-clause-takes : goal.returns-clause-takes
returns-clause-takes g c =
    let d = g.D.Device in
    let f = c.self.inside in
    let written = c.write_to-written in
    let s = written.new.store in
    let Takes : Pending → Type 0 = λ q. (newest s.file ≡ q.plan.image) × (c.turn.new.newest.fresh ≡ false) in
    let takes : OnOk written.result (Takes c.args.pending) =
    subst (λ (q : Pending). OnOk written.result (Takes q)) c.pending.view_is
    (takes_base d.tells f.store.file (d.seen f.store.device) s.file (d.seen s.device) c.pending.inside.prepared f.newest.fresh c.turn.new.newest.fresh written.result written.ensures.leaves c.turn.ensures.fresh) in
    elim c.match-written.branch [
      | in-Ok w ↦ subst (λ (r : Result ℕ DiskFault). OnOk r (Takes c.args.pending)) (sym w.result-is) (subst (λ (r : Result Unit Left). OnOk r (Takes c.args.pending)) w.in-Ok.is takes)
      | in-Err w ↦ subst (λ (r : Result ℕ DiskFault). OnOk r (Takes c.args.pending)) (sym w.result-is) tt
    ]

pub returns-clause-fails : goal.returns-clause-fails
returns-clause-fails g c =
    let d = g.D.Device in
    let f = c.self.inside in
    let p : Pending = record { cut = cut_in c.pending.inside.cut; plan = c.pending.inside.prepared } in
    let written = c.write_to-written in
    let s = written.new.store in
    let image = newest s.file in
    let fresh = c.turn.new.newest.fresh in
    let cuts = cuts_of c.turn.new.before c.turn.new.newest in
    let Fails : FileView g.row.D.Denot → Pending → Type 0 = λ v q.
    (((cuts ≡ v.file) ⊎ (cuts ≡ resolution v.file)) × ((image ≡ v.image) × (fresh ≡ v.fresh))) ⊎ ((cuts ≡ doubt (newest_cut v.file) q.cut) × ((image ≡ q.plan.image) × (fresh ≡ false))) in
    let fails : OnErr written.result (Fails c.args.self.now c.args.pending) =
    subst (λ (q : Pending). OnErr written.result (Fails c.args.self.now q)) c.pending.view_is
    (subst (λ (v : FileView g.row.D.Denot). OnErr written.result (Fails v p)) c.self.view_is
    (fails_on d.tells f.store.file (d.seen f.store.device) s.file (d.seen s.device) p f.newest.fresh fresh (cuts_of f.before f.newest) cuts written.result written.ensures.leaves c.turn.ensures.fresh c.turn.ensures.cuts)) in
    elim c.match-written.branch [
      | in-Ok w ↦ subst (λ (r : Result ℕ DiskFault). OnErr r (Fails c.args.self.now c.args.pending)) (sym w.result-is) tt
      | in-Err w ↦ subst (λ (r : Result ℕ DiskFault). OnErr r (Fails c.args.self.now c.args.pending)) (sym w.result-is) (subst (λ (r : Result Unit Left). OnErr r (Fails c.args.self.now c.args.pending)) w.in-Err.is fails)
    ]
