use Rattle.std.proofs.Common.{◌≡◌, map}
use Rattle.std.specs.List.{range_with_len}
use Rattle.msf_blocks.specs.Blocks.{map_block}
use Rattle.msf_image.proofs.open.active_map_blocks.Given as goal

abbrev pub invariant-loop-j : goal.invariant-loop-j
invariant-loop-j l = l.blocks.items ≡ map (map_block l.head.block l.head.map) (range_with_len 0 l.j)
