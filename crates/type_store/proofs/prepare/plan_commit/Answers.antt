use Rattle.std.proofs.Common.{◌≡◌, ◌≤◌, ◌*◌, ◌/◌, List, Err, IfErr, Result, ap, refl, rules, subst, sym, ◌∙◌}
use Rattle.committer.specs.Fault.{PassesBlocks, PassesDirectory}
use Rattle.cow_streams.specs.declared.fault.PlanFault.{PlanFault}
use Rattle.cow_streams.specs.Planned.{Planned, new_dir_bytes}
use Rattle.type_store.specs.Commit.{Extent}
use Rattle.committer.specs.Stored.{newest}
use Rattle.msf_image.specs.declared.image.Image.{Image}
use Rattle.type_store.specs.Inside.{origin_of}
use Rattle.type_store.specs.Preparing.{HasNoPlace, commit_on}
use Rattle.type_store.proofs.Preparing.{edits_may, fits, no_place, of_made, shape_size, short_made}
use Rattle.type_store.proofs.prepare.plan_commit.Goals as goal

pub prepare-requires-clause-edits : goal.prepare-requires-clause-edits
prepare-requires-clause-edits g c =
    let image = newest c.args.store.now.file in
    let commit = commit_on (origin_of g.D.Device.seen c.args.origin.now) c.args.newest.now.fresh c.args.newest.now.cut.tables c.args.cut.now in
    edits_may commit image _ _ (ap (λ (i : Image). i.head.block) c.image.ensures.newest) (c.deref.ensures.value ∙ c.in_ok-edits.ensures.edits) (c.commits_can_be_planned.ensures.edits commit image c.requires.may)

pub prepare-requires-clause-short : goal.prepare-requires-clause-short
prepare-requires-clause-short g c =
    let image = newest c.args.store.now.file in
    let commit = commit_on (origin_of g.D.Device.seen c.args.origin.now) c.args.newest.now.fresh c.args.newest.now.cut.tables c.args.cut.now in
    short_made commit image _ _ (ap (λ (i : Image). i.head.block) c.image.ensures.newest) (c.deref.ensures.value ∙ c.in_ok-edits.ensures.edits) (c.commits_can_be_planned.ensures.directory commit image c.requires.may)
    (c.commits_can_be_planned.ensures.short commit.limits commit.shape commit.tables (shape_size commit image c.requires.may) c.requires.may.within c.requires.short)

pub returns-in_err-prepared-clause-refused : goal.returns-in_err-prepared-clause-refused
returns-in_err-prepared-clause-refused g c =
    let image = newest c.args.store.now.file in
    let o = origin_of g.D.Device.seen c.args.origin.now in
    let commit = commit_on o c.args.newest.now.fresh c.args.newest.now.cut.tables c.args.cut.now in
    let size = ap (λ (i : Image). i.head.block) c.image.ensures.newest in
    let made = c.deref.ensures.value ∙ c.in_ok-edits.ensures.edits in
    let why = c.in_err-prepared.field-0.0 in
    let r : Result Planned PlanFault = Err why in
    let is : c.from_residual-in_err-prepared.result ≡ Err why = search rules in
    subst (λ (x : Result (Planned × Extent) PlanFault). IfErr x (HasNoPlace c.args.store.now.limit o.shape c.args.cut.now.tables)) (sym is)
    (no_place commit image c.args.store.now.limit r why refl c.requires.may (c.commits_can_be_planned.ensures.directory commit image c.requires.may) c.image.ensures.limited
    (λ needed. c.commits_can_be_planned.ensures.blocks commit image needed c.requires.may)
    (λ needed e. of_made (λ es. PassesDirectory image es needed) commit image _ _ size made (c.in_err-prepared.ensures.directory needed e))
    (λ needed e. of_made (λ es. PassesBlocks c.args.store.now.limit image es needed) commit image _ _ size made (c.in_err-prepared.ensures.blocks needed e)))

pub returns-clause-fits : goal.returns-clause-fits
returns-clause-fits g c =
    let image = newest c.args.store.now.file in
    let commit = commit_on (origin_of g.D.Device.seen c.args.origin.now) c.args.newest.now.fresh c.args.newest.now.cut.tables c.args.cut.now in
    fits commit image c.requires.may (c.commits_can_be_planned.ensures.directory commit image c.requires.may)
    (of_made (λ es. new_dir_bytes image es ≤ image.head.block * image.head.block / 4) commit image _ _ (ap (λ (i : Image). i.head.block) c.image.ensures.newest) (c.deref.ensures.value ∙ c.in_ok-edits.ensures.edits) c.in_ok-prepared.ensures.fits.0)
