use Rattle.std.proofs.Common.{length, sym, ap, ◌∙◌, arith}
use Rattle.cow_streams.specs.Layout.{all_parts}
use Rattle.cow_streams.proofs.LayoutLoops.{blocks_more, first_parts, layouts_all}
use Rattle.cow_streams.proofs.counting.blocks_after.Goals as goal

pub loop-i-init : goal.loop-i-init
loop-i-init c = record { counted = sym (ap length (first_parts c.args.block_size c.args.edits.now c.args.streams.now)); few = omega arith }

pub loop-i-preserved : goal.loop-i-preserved
loop-i-preserved c =
    let more = blocks_more c.args.block_size c.args.edits.now c.args.streams.now c.loop-i.i c.index-streams-i.result c.loop-i.auto.i c.loop-i-test.true c.index-streams-i.is in
    let now = c.loop-i.invariant in
    record { counted = omega (arith, now.counted, c.from-sum.ensures, c.blocks_of.ensures, more); few = omega (arith, now.few, c.from-sum.ensures, c.blocks_of.type_inv) }

pub returns : goal.returns
returns c = c.loop-i.invariant.counted ∙ ap (λ ls. length (all_parts ls)) (layouts_all c.args.block_size c.args.edits.now c.args.streams.now c.loop-i.i c.loop-i-test.false)
