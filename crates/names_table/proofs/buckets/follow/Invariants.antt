use Rattle.std.proofs.Common.{◌≤◌, ◌-◌, length}
use Rattle.names_table.specs.Buckets.{AreTaken}
use Rattle.names_table.proofs.buckets.follow.Given as goal

abbrev pub invariant-loop-at : goal.invariant-loop-at
invariant-loop-at l = record { behind : l.start ≤ l.at; inside : l.at ≤ length l.buckets; taken : AreTaken l.buckets l.start l.at }

abbrev pub decreases-loop-at : goal.decreases-loop-at
decreases-loop-at l = length l.buckets - l.at
