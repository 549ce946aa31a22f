use Rattle.std.proofs.Common.{◌≡◌, ◌++◌, drop, length, take}
use Rattle.cow_streams.specs.Layout.{all_parts, laid, layouts, pieces}
use Rattle.cow_streams.specs.Planned.{writes_to}
use Rattle.cow_streams.proofs.laying.lay_streams.Given as goal

abbrev pub invariant-loop-i : goal.invariant-loop-i
invariant-loop-i l = record {
  streams : l.all.items ≡ laid (take l.i (layouts l.block_size l.edits l.fn.streams)) (drop (length l.fn.writes.items) l.given);
  writes : l.writes.items ≡ l.fn.writes.items ++ writes_to (pieces (all_parts (take l.i (layouts l.block_size l.edits l.fn.streams)))) (drop (length l.fn.writes.items) l.given);
}
