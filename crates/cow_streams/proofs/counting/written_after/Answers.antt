use Rattle.std.proofs.Common.{length, sym, ap, ◌∙◌, arith}
use Rattle.cow_streams.specs.Layout.{all_parts, pieces}
use Rattle.cow_streams.proofs.LayoutLoops.{first_parts, layouts_all, pieces_more}
use Rattle.cow_streams.proofs.counting.written_after.Goals as goal

pub loop-i-init : goal.loop-i-init
loop-i-init c = record { counted = sym (ap (λ ps. length (pieces ps)) (first_parts c.args.block_size c.args.edits.now c.args.streams.now)); few = omega arith }

pub loop-i-preserved : goal.loop-i-preserved
loop-i-preserved c =
    let more = pieces_more c.args.block_size c.args.edits.now c.args.streams.now c.loop-i.i c.index-streams-i.result c.loop-i.auto.i c.loop-i-test.true c.index-streams-i.is in
    let now = c.loop-i.invariant in
    record { counted = omega (arith, now.counted, c.from-sum.ensures, c.written_of.ensures, more); few = omega (arith, now.few, c.from-sum.ensures, c.written_of.type_inv) }

pub returns : goal.returns
returns c = c.loop-i.invariant.counted ∙ ap (λ ls. length (pieces (all_parts ls))) (layouts_all c.args.block_size c.args.edits.now c.args.streams.now c.loop-i.i c.loop-i-test.false)
