use Rattle.std.proofs.Common.{◌+◌, ◌≤◌, length}
use Rattle.chain_index.specs.Chains.{heads_for}
use Rattle.chain_index.proofs.Walk.{past}
use Rattle.record_table.specs.Buckets.{in_bucket}
use Rattle.record_table.proofs.Finding.{IsMid, left}
use Rattle.record_table.proofs.lookup.find_in.Given as goal

-- the walk, and what is left of its steps
abbrev pub invariant-loop-at : goal.invariant-loop-at
invariant-loop-at g l = record {
  mid : IsMid l.records l.bytes (heads_for (length l.records)) l.at l.found;
  cost : l.steps + left l.records l.bytes (heads_for (length l.records)) l.at ≤ l.fn.steps + in_bucket l.records l.bytes;
}

abbrev pub decreases-loop-at : goal.decreases-loop-at
decreases-loop-at g l = past l.at
