use Rattle.std.proofs.Common.{length, ap, ◌∙◌, arith}
use Rattle.std.proofs.lemmas.Bool.{ltb-true}
use Rattle.cow_streams.specs.Layout.{all_parts, layouts}
use Rattle.cow_streams.proofs.Outcome.{bytes_are}
use Rattle.cow_streams.proofs.checking.is_short.Goals as goal

pub returns-then-blocks : goal.returns-then-blocks
returns-then-blocks c = λ t.
    let image = c.args.image.now in
    let edits = c.args.edits.now in
    let blocks = c.blocks_after-blocks.ensures ∙ ap (λ streams. length (all_parts (layouts image.head.block edits streams))) c.streams.ensures in
    let lt = ltb-true _ 4294967296 t in
    omega (arith, lt, blocks, bytes_are image edits, c.len.ensures, c.from.ensures)
