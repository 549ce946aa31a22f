use Rattle.std.proofs.Common.{◌≡◌, ◌≤◌, length}
use Rattle.cow_streams.specs.Layout.{parts_to, pieces}
use Rattle.cow_streams.proofs.counting.written_to.Given as goal

abbrev pub invariant-loop-k : goal.invariant-loop-k
invariant-loop-k l = record {
  counted : l.written ≡ length (pieces (parts_to l.block_size l.edits l.i l.stream.blocks l.k));
  few : l.written ≤ l.k;
}
