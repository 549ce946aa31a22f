use Rattle.std.proofs.Common.{◌≡◌, ◌++◌, map}
use Rattle.std.specs.List.{range_with_len}
use Rattle.cow_streams.proofs.LayoutLoops.{map_write}
use Rattle.cow_streams.proofs.writing.put_map.Given as goal

abbrev pub invariant-loop-j : goal.invariant-loop-j
invariant-loop-j l = l.writes.items ≡ l.fn.writes.items ++ map (map_write l.head l.text) (range_with_len 0 l.j)
