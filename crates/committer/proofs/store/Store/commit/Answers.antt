use Rattle.std.proofs.Common.{inl, subst, sym, ap, ◌∙◌}
use Rattle.srv_edge.specs.Disk.{LeavesOnly}
use Rattle.srv_edge.proofs.Moments.{started}
use Rattle.msf_image.specs.Relation.{Reads, contents_in}
use Rattle.cow_streams.specs.Edits.{edited}
use Rattle.cow_streams.specs.Planned.{Planned, new_image, planned}
use Rattle.committer.specs.Left.{ShowsEither, file_after}
use Rattle.committer.specs.Stored.{Stored, newest}
use Rattle.committer.proofs.Storing.{shown}
use Rattle.committer.proofs.store.Store.commit.Goals as goal

pub returns-in_err-prepared-clause-any_moment : goal.returns-in_err-prepared-clause-any_moment
returns-in_err-prepared-clause-any_moment g c =
    let d = g.D.Device in
    let edits = c.args.edits.now in
    let s = c.self.inside in
    subst (λ (t : Stored g.row.D.Denot). LeavesOnly d.moment d.left_since t.device t.device (ShowsEither t.limit t.file (d.seen t.device) (planned (newest t.file) edits))) c.self.view_is
    (started d.moment d.left_since s.device _ (d.may_leave s.device) (g.met.D.Device.only_now s.device) (λ y now. inl (shown _ _ _ _ c.self.invariant.holds y now)))

pub returns-clause-reads : goal.returns-clause-reads
returns-clause-reads g c = λ tells.
    let d = g.D.Device in
    let s = c.args.self.now in
    let last = c.write.new.self.device in
    let is = c.in_ok-write.ensures.only (d.seen last) (g.met.D.Device.seen_is_one last tells) in
    let reads = subst (λ (p : Planned). Reads (file_after s.file (d.seen s.device) p) s.limit p.image (edited c.args.edits.now (contents_in (d.seen s.device) (newest s.file)))) c.in_ok-prepared.ensures.planned (c.in_ok-prepared.ensures.reads tells) in
    subst (λ f. Reads f s.limit (new_image (newest s.file) c.args.edits.now) (edited c.args.edits.now (contents_in (d.seen s.device) (newest s.file)))) (sym (is ∙ ap (file_after s.file (d.seen s.device)) c.in_ok-prepared.ensures.planned)) reads
