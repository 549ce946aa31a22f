use Rattle.std.proofs.Common.{◌≡◌, ◌++◌, map}
use Rattle.std.specs.List.{range_with_len}
use Rattle.cow_streams.specs.Packing.{given_write}
use Rattle.cow_streams.proofs.packing.put_given.Given as goal

abbrev pub invariant-loop-k : goal.invariant-loop-k
invariant-loop-k l = l.writes.items ≡ l.fn.writes.items ++ map (given_write l.block l.content) (range_with_len 0 l.k)
