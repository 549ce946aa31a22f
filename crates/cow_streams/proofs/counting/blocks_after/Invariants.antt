use Rattle.std.proofs.Common.{◌≡◌, ◌≤◌, ◌*◌, length, take}
use Rattle.cow_streams.specs.Layout.{all_parts, layouts}
use Rattle.cow_streams.proofs.counting.blocks_after.Given as goal

abbrev pub invariant-loop-i : goal.invariant-loop-i
invariant-loop-i l = record {
  counted : l.sum ≡ length (all_parts (take l.i (layouts l.block_size l.edits l.streams)));
  few : l.sum ≤ l.i * 4294967296;
}
