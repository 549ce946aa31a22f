use Rattle.free_page_maps.proofs.Masks.{Cleared}
use Rattle.free_page_maps.proofs.reserved.clear_reserved.Given as goal

abbrev pub invariant-loop-i : goal.invariant-loop-i
invariant-loop-i l = Cleared l.bits l.fn.bits l.block_size l.i
