use Rattle.std.proofs.Common.{◌≡◌, true, false, Ok, Err, Result, rules, sym, ap, subst, ◌∙◌}
use Rattle.msf_blocks.specs.Judging.{Tells}
use Rattle.msf_image.specs.declared.fault.Damage.{Damage}
use Rattle.msf_image.specs.Faults.{damage_in}
use Rattle.tpi_stream.specs.declared.header.Header.{Header}
use Rattle.tpi_stream.specs.declared.reading.Records.{Records}
use Rattle.record_table.specs.Table.{Table}
use Rattle.committer.specs.Stored.{newest}
use Rattle.table_model.specs.Bounds.{bounds_of}
use Rattle.type_store.specs.Commits.{contents_of}
use Rattle.type_store.specs.Opening.{is_apart_in}
use Rattle.type_store.proofs.Readings.{apart_is, records_are, records_judged}
use Rattle.type_store.proofs.open.read_table.Goals as goal

pub returns-then-not-is_apart-clause-told : goal.returns-then-not-is_apart-clause-told
returns-then-not-is_apart-clause-told g c = λ tells.
    let file = g.D.Device.seen c.args.store.now.device in
    let image = newest c.args.store.now.file in
    let read = c.in_ok-header.field-0 in
    let apart = apart_is file image c.args.others.now read.header.hash_stream in
    let judged = records_judged (bounds_of c.args.limits) (contents_of file image) c.args.space c.args.others.now read false (c.in_ok-header.ensures.told tells) (apart ∙ (cc (c.if-not-is_apart.ensures))) in
    rw c.from-then-not-is_apart.ensures (judged ∙ ap (λ d. Err d) (sym c.hash_damage.ensures))

pub returns-clause-told : goal.returns-clause-told
returns-clause-told g c = λ tells.
    let file = g.D.Device.seen c.args.store.now.device in
    let image = newest c.args.store.now.file in
    let read = c.in_ok-header.field-0 in
    let apart = apart_is file image c.args.others.now read.header.hash_stream in
    let judged = records_judged (bounds_of c.args.limits) (contents_of file image) c.args.space c.args.others.now read true (c.in_ok-header.ensures.told tells) (apart ∙ (cc (c.if-not-is_apart.ensures))) in
    let list : c.in_ok-table.table.records ≡ read.list = ap (λ (t : Table). t.records) c.in_ok-table.ensures in
    judged ∙ ap (λ records. Ok (record read { list = records })) (sym list)

pub returns-in_err-header-clause-told : goal.returns-in_err-header-clause-told
returns-in_err-header-clause-told g c = λ tells.
    let file = g.D.Device.seen c.args.store.now.device in
    let image = newest c.args.store.now.file in
    let are = records_are (bounds_of c.args.limits) (contents_of file image) c.args.space c.args.others.now in
    subst (λ (r : Result Records Damage). Tells damage_in (λ (read : Header × Table). record { header = read.0; list = read.1.records }) c.from_residual.result r) (sym are) (search rules)
