use Rattle.std.proofs.Common.{◌≡◌, ◌++◌, drop, length}
use Rattle.cow_streams.specs.Layout.{numbers, parts_to, pieces}
use Rattle.cow_streams.specs.Planned.{writes_to}
use Rattle.cow_streams.proofs.laying.lay_blocks.Given as goal

abbrev pub invariant-loop-k : goal.invariant-loop-k
invariant-loop-k l = record {
  numbers : l.blocks.items ≡ numbers (parts_to l.block_size l.edits l.i l.stream.blocks l.k) (drop (length l.fn.writes.items) l.given);
  writes : l.writes.items ≡ l.fn.writes.items ++ writes_to (pieces (parts_to l.block_size l.edits l.i l.stream.blocks l.k)) (drop (length l.fn.writes.items) l.given);
}
