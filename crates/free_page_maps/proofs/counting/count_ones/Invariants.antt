use Rattle.std.proofs.Common.{◌≡◌, length}
use Rattle.msf_blocks.specs.Bits.{has_bit}
use Rattle.free_page_maps.specs.FreeBlocks.{below_where}
use Rattle.free_page_maps.proofs.counting.count_ones.Given as goal

abbrev pub invariant-loop-b : goal.invariant-loop-b
invariant-loop-b l = l.ones ≡ length (below_where l.b (has_bit l.bits))
