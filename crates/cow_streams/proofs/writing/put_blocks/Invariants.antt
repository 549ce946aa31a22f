use Rattle.std.proofs.Common.{◌≡◌, ◌++◌, drop, length, map}
use Rattle.std.specs.List.{range_with_len}
use Rattle.msf_image.specs.Packed.{block_of}
use Rattle.cow_streams.specs.Planned.{writes_to}
use Rattle.cow_streams.proofs.writing.put_blocks.Given as goal

abbrev pub invariant-loop-k : goal.invariant-loop-k
invariant-loop-k l = l.writes.items ≡ l.fn.writes.items ++ writes_to (map (block_of l.block_size l.bytes) (range_with_len 0 l.k)) (drop (length l.fn.writes.items) l.given)
