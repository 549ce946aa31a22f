use Rattle.std.proofs.Common.{sym, ◌∙◌, ap}
use Rattle.std.specs.Str.{bytes_eq}
use Rattle.table_model.proofs.Searching.{name-here, place_of-here, place_of-further}
use Rattle.table_model.proofs.search.place_of_name.Goals as goal

pub returns-then-eq : goal.returns-then-eq
returns-then-eq c =
    let names = c.args.names.now in
    let x = c.index-names-place.result in
    let name = c.args.name.now in
    sym (place_of-here names c.loop-place.place x name c.loop-place.invariant (name-here names c.loop-place.place x c.loop-place-test.true c.index-names-place.is)
    (ap (λ z. bytes_eq z name) (sym c.bytes.ensures) ∙ sym c.if-eq.ensures))

pub loop-place-preserved : goal.loop-place-preserved
loop-place-preserved c =
    let names = c.args.names.now in
    let x = c.index-names-place.result in
    let name = c.args.name.now in
    place_of-further names c.loop-place.place x name c.loop-place.invariant (name-here names c.loop-place.place x c.loop-place-test.true c.index-names-place.is)
    (ap (λ z. bytes_eq z name) (sym c.bytes.ensures) ∙ sym c.if-eq.ensures)
