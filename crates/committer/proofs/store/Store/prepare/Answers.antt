use Rattle.std.proofs.Common.{◌≤◌, subst, sym}
use Rattle.msf_image.specs.declared.image.Image.{Image}
use Rattle.msf_image.specs.Relation.{Reads, contents_in}
use Rattle.cow_streams.specs.Plan.{IsPlan}
use Rattle.cow_streams.specs.Planned.{FitsDirectory, new_blocks}
use Rattle.committer.specs.Stored.{Stored, newest, settled_file}
use Rattle.committer.proofs.Steps.{planned_reads}
use Rattle.committer.proofs.Storing.{newest_is, settles}
use Rattle.committer.proofs.store.Store.prepare.Goals as goal

pub returns-clause-sound : goal.returns-clause-sound
returns-clause-sound g c =
    let s = c.self.inside in
    subst (λ (s : Stored g.row.D.Denot). IsPlan s.limit (newest s.file) c.args.edits.now c.new.result) c.self.view_is
    (subst (λ (i : Image). IsPlan s.limit i c.args.edits.now c.new.result) (sym (newest_is s.before s.image)) (subst (IsPlan s.limit s.image c.args.edits.now) (sym c.new.ensures) c.in_ok-plan.ensures.sound))

pub returns-clause-reads : goal.returns-clause-reads
returns-clause-reads g c = λ tells.
    let s = c.args.self.now in
    let d = g.D.Device in
    let reads = subst (λ (s : Stored g.row.D.Denot). Reads (settled_file s.file (d.seen s.device)) s.limit (newest s.file) (contents_in (d.seen s.device) (newest s.file))) c.self.view_is
    (settles _ _ _ _ c.self.invariant.holds (g.met.D.Device.seen_is_one c.self.inside.device tells)) in
    planned_reads s.limit (newest s.file) c.args.edits.now c.new.result (contents_in (d.seen s.device) (newest s.file)) (settled_file s.file (d.seen s.device)) (returns-clause-sound g c) reads

pub returns-clause-fits : goal.returns-clause-fits
returns-clause-fits g c =
    let s = c.self.inside in
    subst (λ (s : Stored g.row.D.Denot). FitsDirectory (newest s.file) c.args.edits.now × (new_blocks (newest s.file) c.args.edits.now ≤ s.limit)) c.self.view_is
    (subst (λ (i : Image). FitsDirectory i c.args.edits.now × (new_blocks i c.args.edits.now ≤ s.limit)) (sym (newest_is s.before s.image)) c.in_ok-plan.ensures.fits)
