use Rattle.std.proofs.Common.{◌≡◌, ◌≤◌, ◌+◌, ◌*◌, ◌++◌}
use Rattle.cow_streams.specs.Supply.{unreserved_from}
use Rattle.cow_streams.proofs.Loops.{end_after}
use Rattle.cow_streams.proofs.giving.push_past.Given as goal

abbrev pub invariant-loop-i : goal.invariant-loop-i
invariant-loop-i l = record {
  given : l.given.items ≡ l.fn.given.items ++ unreserved_from l.block_size l.first l.i;
  is_end : l.end ≡ end_after l.block_size l.first l.i;
  few : l.end ≤ l.first + 3 * l.i;
}
