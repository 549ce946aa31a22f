use Rattle.std.proofs.Common.{◌≡◌}
use Rattle.msf_image.specs.Packed.{given_from}
use Rattle.msf_image.proofs.packed.given_from.Given as goal

abbrev pub invariant-loop-i : goal.invariant-loop-i
invariant-loop-i l = l.blocks.items ≡ given_from l.block l.first l.i
