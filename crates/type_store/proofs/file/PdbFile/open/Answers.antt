use Rattle.std.proofs.Common.{◌≡◌, List, Ok, Err, IsTrue, Result, ℕ, rules, sym, ap, subst, ◌∙◌}
use Rattle.std.specs.Prelude.{IfSome}
use Rattle.srv_edge.specs.Reading.{OnlyReads}
use Rattle.msf_image.specs.declared.fault.Damage.{Damage}
use Rattle.msf_image.specs.declared.fault.OpenFault.{OpenFault}
use Rattle.msf_image.specs.declared.image.Image.{Image}
use Rattle.msf_image.specs.Faults.{damage_in}
use Rattle.msf_image.specs.Reads.{read_file}
use Rattle.msf_image.proofs.Moments.{only_reads_on}
use Rattle.committer.specs.Stored.{newest}
use Rattle.table_model.specs.Bounds.{bounds_of}
use Rattle.table_model.specs.Cut.{Cut}
use Rattle.type_store.specs.declared.tables.Tables as program
use Rattle.type_store.specs.Commits.{Holds, contents_of, held_in}
use Rattle.type_store.specs.Committed.{HoldsTables}
use Rattle.type_store.specs.Files.{FileView, cut_of}
use Rattle.type_store.specs.Holds.{Contents, holding}
use Rattle.type_store.specs.Opened.{TellsOpened}
use Rattle.type_store.specs.Views.{tables_in}
use Rattle.type_store.specs.Written.{numbers_of}
use Rattle.type_store.proofs.Chain.{same_contents, told_on}
use Rattle.type_store.proofs.Opened.{held_bad, held_bad_streams, held_behind, held_good, shape_at, tells}
use Rattle.type_store.proofs.file.PdbFile.open.Goals as goal

pub returns-in_err-store-clause-told : goal.returns-in_err-store-clause-told
returns-in_err-store-clause-told g c = λ told.
    let bounds = bounds_of c.args.limits in
    let seen = g.D.Device.seen c.args.device in
    let refused = c.in_err-store.field-0.0 in
    let is : c.from_residual.result ≡ Err refused = search rules in
    let why : IfSome (damage_in refused.0) (λ damage. held_in bounds seen ≡ Err damage) = told_on refused.0 _ _ (λ d bad. held_bad bounds seen d bad) (c.in_err-store.ensures.reads told) in
    subst (λ (r : Result (FileView g.row.D.Denot × program.Tables) (OpenFault × g.row.D.Denot)). TellsOpened bounds seen r) (sym is) why

pub as_opened-requires-clause-holds : goal.as_opened-requires-clause-holds
as_opened-requires-clause-holds g c = λ told.
    let streams = c.in-Ok.streams in
    subst (λ (x : Contents). HoldsTables (bounds_of c.args.limits) streams.kept streams.info.items streams.age (tables_in streams.tables) x) (sym (same_contents g.D.Device _ _ c.in-Ok.ensures.only_reads)) (c.in-Ok.ensures.holds told)

pub returns-in-Ok-clause-told : goal.returns-in-Ok-clause-told
returns-in-Ok-clause-told g c = λ told.
    let bounds = bounds_of c.args.limits in
    let seen = g.D.Device.seen c.args.device in
    let streams = c.in-Ok.streams in
    let image = newest c.in_ok-store.store.file in
    let same : c.as_opened.result.0.image ≡ image = c.as_opened.ensures.image ∙ ap newest c.in-Ok.ensures.only_reads.file in
    let read : read_file seen bounds.blocks ≡ Ok image = c.in_ok-store.ensures.reads told in
    let holds : HoldsTables bounds streams.kept streams.info.items streams.age (tables_in streams.tables) (contents_of seen image) =
    subst (λ (x : List ℕ). HoldsTables bounds streams.kept streams.info.items streams.age (tables_in streams.tables) (contents_of x image)) c.in_ok-store.ensures.only_reads.seen (c.in-Ok.ensures.holds told) in
    let good = held_good bounds seen image (cut_of streams.age (tables_in streams.tables)) read (tells bounds streams.kept streams.info.items streams.age (tables_in streams.tables) seen image holds) in
    (read ∙ ap (λ (i : Image). Ok i) (sym same), subst (λ (cut : Cut). Holds bounds seen cut) (sym c.as_opened.ensures.cut) good)

pub returns-in-Ok-clause-shape : goal.returns-in-Ok-clause-shape
returns-in-Ok-clause-shape g c = λ told.
    let bounds = bounds_of c.args.limits in
    let seen = g.D.Device.seen c.args.device in
    let streams = c.in-Ok.streams in
    let image = newest c.in_ok-store.store.file in
    let read : read_file seen bounds.blocks ≡ Ok image = c.in_ok-store.ensures.reads told in
    let holds : HoldsTables bounds streams.kept streams.info.items streams.age (tables_in streams.tables) (contents_of seen image) =
    subst (λ (x : List ℕ). HoldsTables bounds streams.kept streams.info.items streams.age (tables_in streams.tables) (contents_of x image)) c.in_ok-store.ensures.only_reads.seen (c.in-Ok.ensures.holds told) in
    record {
      image = image;
      read = read;
      held = holds.held;
      holds = held_behind bounds seen image holds.held read holds.holds;
      is = c.as_opened.ensures.shape ∙ shape_at image _ streams.kept (numbers_of holds.held) (ap newest c.in-Ok.ensures.only_reads.file) (sym holds.kept_are);
    }

pub returns-in-Ok-clause-only_reads : goal.returns-in-Ok-clause-only_reads
returns-in-Ok-clause-only_reads g c =
    let both = only_reads_on g.D.Device g.met.D.Device.counts_now _ _ _ c.in_ok-store.ensures.only_reads c.in-Ok.ensures.only_reads.device_reads in
    subst (λ (d : g.row.D.Denot). OnlyReads g.D.Device c.args.device d) (sym c.as_opened.ensures.device) both

pub returns-in-Err-clause-told : goal.returns-in-Err-clause-told
returns-in-Err-clause-told g c = λ told.
    let bounds = bounds_of c.args.limits in
    let seen = g.D.Device.seen c.args.device in
    let image = newest c.in_ok-store.store.file in
    let same : contents_of (g.D.Device.seen c.in_ok-store.store.device) image ≡ contents_of seen image = ap (λ x. contents_of x image) c.in_ok-store.ensures.only_reads.seen in
    told_on c.in-Err.fault _ _ (λ d bad. held_bad_streams bounds seen image d (c.in_ok-store.ensures.reads told) (ap (λ (x : Contents). holding bounds x) (sym same) ∙ bad)) (c.in-Err.ensures.damage told)
