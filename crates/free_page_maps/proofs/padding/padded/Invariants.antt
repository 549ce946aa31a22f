use Rattle.std.proofs.Common.{◌≡◌}
use Rattle.free_page_maps.proofs.MapTexts.{padded_text}
use Rattle.free_page_maps.proofs.padding.padded.Given as goal

abbrev pub invariant-loop-i : goal.invariant-loop-i
invariant-loop-i l = l.maps.items ≡ padded_text l.blocks l.bits l.i
