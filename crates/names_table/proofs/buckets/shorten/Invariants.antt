use Rattle.std.proofs.Common.{◌≤◌, ◌-◌, length}
use Rattle.names_table.specs.Buckets.{Leads}
use Rattle.names_table.proofs.buckets.shorten.Given as goal

abbrev pub invariant-loop-at : goal.invariant-loop-at
invariant-loop-at l = record { behind : l.start ≤ l.at; before : l.at ≤ l.place; leads : Leads l.buckets l.next }

abbrev pub decreases-loop-at : goal.decreases-loop-at
decreases-loop-at l = length l.buckets - l.at
