use Rattle.std.proofs.Common.{arith}
use Rattle.free_page_maps.proofs.Masks.{cleared_all, cleared_more}
use Rattle.free_page_maps.proofs.reserved.clear_reserved.Goals as goal

pub loop-i-preserved : goal.loop-i-preserved
loop-i-preserved c =
    cleared_more c.loop-i.bits c.args.bits.now c.args.block_size c.loop-i.i c.unreserved_mask.result (omega arith) c.unreserved_mask.ensures c.loop-i.invariant

pub returns : goal.returns
returns c = cleared_all c.loop-i.bits c.args.bits.now c.args.block_size c.loop-i.i (omega arith) c.loop-i.invariant
