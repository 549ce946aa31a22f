use Rattle.std.proofs.Common.{◌≡◌, ◌<◌, ◌+◌, ◌-◌, ◌^◌, ℕ, Some, sym, ap, subst, ◌∙◌, arith}
use Rattle.committer.specs.Fault.{fault_of_plan}
use Rattle.committer.specs.Stored.{newest}
use Rattle.cow_streams.specs.declared.fault.PlanFault.{PlanFault}
use Rattle.table_model.specs.Bounds.{Bounds}
use Rattle.table_model.specs.Cut.{Cut}
use Rattle.table_model.specs.File.{File, newest_cut}
use Rattle.type_store.specs.Committed.{GoesOn}
use Rattle.type_store.specs.Files.{Begun, FileView, FitsDirectory, HasBounds, IsRefused, Pending, by_age, cut_of}
use Rattle.type_store.specs.declared.tables.Tables as program
use Rattle.type_store.specs.Inside.{origin_of, ready_of}
use Rattle.type_store.specs.Preparing.{HasNoPlace, commit_on}
use Rattle.type_store.specs.Sharing.{Shares}
use Rattle.type_store.specs.Views.{tables_in}
use Rattle.type_store.proofs.Preparing.{is_refused, may_plan, newest_in, ready_to_write, told_why, within_bounds}
use Rattle.type_store.proofs.file.PdbFile.prepare.Goals as goal

pub returns-then-self-clause-cause : goal.returns-then-self-clause-cause
returns-then-self-clause-cause g c = by_age (ap (λ (v : FileView g.row.D.Denot). v.last) (sym c.self.view_is) ∙ c.if-self.true)

pub plan_commit-requires-clause-may : goal.plan_commit-requires-clause-may
plan_commit-requires-clause-may g c =
    let d = g.D.Device in
    let f = c.self.inside in
    let o = origin_of d.seen f.origin in
    let tables = tables_in c.args.tables.now in
    let on = subst (λ (x : File). GoesOn (newest_cut x).tables tables) (sym (ap (λ (v : FileView g.row.D.Denot). v.file) c.self.view_is)) c.requires.goes_on in
    let within = within_bounds o.bounds tables (subst (λ (b : Bounds). HasBounds b tables) (sym (ap (λ (v : FileView g.row.D.Denot). v.bounds) c.self.view_is)) c.requires.bounds) c.cut_of_tables-cut.ensures.kept in
    may_plan d.tells d.seen o f.store f.before f.newest f.last (ready_of f.ready) tables c.cut_of_tables-cut.result c.self.invariant on within c.image-image.ensures.whole c.cut_of_tables-cut.ensures.cut

pub returns-in_err-prepared-clause-cause : goal.returns-in_err-prepared-clause-cause
returns-in_err-prepared-clause-cause g c =
    let d = g.D.Device in
    let f = c.self.inside in
    let o = origin_of d.seen f.origin in
    let tables = tables_in c.args.tables.now in
    let small : f.last < 2 ^ 32 - 1 = omega (arith, c.if-self.false, c.self.invariant.small) in
    let why = c.in_err-prepared.field-0.0 in
    let v = c.args.self.now in
    let small_now = subst (λ (w : FileView g.row.D.Denot). w.last < 2 ^ 32 - 1) c.self.view_is small in
    let has : HasNoPlace v.bounds.blocks v.shape tables why =
    subst (λ (w : FileView g.row.D.Denot). HasNoPlace w.bounds.blocks w.shape tables why) c.self.view_is
    (subst (λ n. HasNoPlace n o.shape tables why) c.self.invariant.limit (subst (λ (x : Cut). HasNoPlace f.store.limit o.shape x.tables why) c.cut_of_tables-cut.ensures.cut c.in_err-prepared.ensures.refused)) in
    told_why c.from_residual.result (fault_of_plan why) (IsRefused v tables) c.from_residual.ensures.1 (is_refused v tables why small_now has)

pub invariant_of-self : goal.invariant_of-self
invariant_of-self g c =
    let d = g.D.Device in
    let f = c.self.inside in
    let o = origin_of d.seen f.origin in
    let tables = tables_in c.args.tables.now in
    let on = subst (λ (x : File). GoesOn (newest_cut x).tables tables) (sym (ap (λ (v : FileView g.row.D.Denot). v.file) c.self.view_is)) c.requires.goes_on in
    let within = within_bounds o.bounds tables (subst (λ (b : Bounds). HasBounds b tables) (sym (ap (λ (v : FileView g.row.D.Denot). v.bounds) c.self.view_is)) c.requires.bounds) c.cut_of_tables-cut.ensures.kept in
    let small : f.last < 2 ^ 32 - 1 = omega (arith, c.if-self.false, c.self.invariant.small) in
    let p = c.in_ok-prepared.prepared in
    let cut_is = ap (λ (t : program.Tables). cut_of (f.last + 1) (tables_in t)) c.of.ensures in
    let now_is : c.of-2.result.value ≡ record { cut = cut_of (f.last + 1) tables; plan = p } = c.of-2.ensures ∙ ap (λ (b : Begun). record { cut = b.cut; plan = p }) c.new.ensures ∙ ap (λ (x : Cut). record { cut = x; plan = p }) cut_is in
    ready_to_write d.tells d.seen o f.store f.before f.newest f.last (ready_of f.ready) tables c.cut_of_tables-cut.result c.of-2.result.value c.self.invariant on within c.commits_write_tables.ensures.written c.commits_can_be_planned.ensures.next
    c.image-image.ensures.whole small p c.cut_of_tables-cut.ensures.cut c.in_ok-prepared.ensures.planned c.in_ok-prepared.ensures.sound c.in_ok-prepared.ensures.reads now_is

pub returns-clause-may_begin : goal.returns-clause-may_begin
returns-clause-may_begin g c =
    let d = g.D.Device in
    let f = c.self.inside in
    let o = origin_of d.seen f.origin in
    let tables = tables_in c.args.tables.now in
    let small : f.last < 2 ^ 32 - 1 = omega (arith, c.if-self.false, c.self.invariant.small) in
    let fits = subst (λ (x : Cut). FitsDirectory o.shape x.tables) c.cut_of_tables-cut.ensures.cut c.in_ok-prepared.ensures.fits in
    record {
      number = subst (λ (w : FileView g.row.D.Denot). w.last < 2 ^ 32 - 1) c.self.view_is small;
      directory = subst (λ (w : FileView g.row.D.Denot). FitsDirectory w.shape tables) c.self.view_is fits;
    }

pub returns-clause-shares : goal.returns-clause-shares
returns-clause-shares g c =
    let d = g.D.Device in
    let f = c.self.inside in
    let o = origin_of d.seen f.origin in
    let tables = tables_in c.args.tables.now in
    let on = subst (λ (x : File). GoesOn (newest_cut x).tables tables) (sym (ap (λ (v : FileView g.row.D.Denot). v.file) c.self.view_is)) c.requires.goes_on in
    let within = within_bounds o.bounds tables (subst (λ (b : Bounds). HasBounds b tables) (sym (ap (λ (v : FileView g.row.D.Denot). v.bounds) c.self.view_is)) c.requires.bounds) c.cut_of_tables-cut.ensures.kept in
    let image = newest f.store.file in
    let p = c.in_ok-prepared.prepared in
    let may = may_plan d.tells d.seen o f.store f.before f.newest f.last (ready_of f.ready) tables c.cut_of_tables-cut.result c.self.invariant on within c.image-image.ensures.whole c.cut_of_tables-cut.ensures.cut in
    let made = commit_on o f.newest.fresh f.newest.cut.tables c.cut_of_tables-cut.result in
    let over = subst (λ (x : Cut). Shares o.shape f.newest.fresh f.newest.cut.tables x.tables image p.image) c.cut_of_tables-cut.ensures.cut (c.commits_can_be_planned.ensures.shares made f.store.limit image p may c.in_ok-prepared.ensures.sound) in
    let on_cut = subst (λ (x : Cut). Shares o.shape f.newest.fresh x.tables tables image p.image) (sym (newest_in f.before f.newest)) over in
    subst (λ (w : FileView g.row.D.Denot). Shares w.shape w.fresh (newest_cut w.file).tables tables w.image p.image) c.self.view_is on_cut
