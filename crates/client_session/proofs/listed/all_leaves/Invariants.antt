use Rattle.std.proofs.Common.{◌-◌, ◌≤◌, drop, length}
use Rattle.client_session.specs.Sharing.{AreLeaves}
use Rattle.client_session.proofs.listed.all_leaves.Given as goal

abbrev pub invariant-loop-record : goal.invariant-loop-record
invariant-loop-record l = (l.at ≤ length l.list) × (AreLeaves l.space (drop l.at l.list) → AreLeaves l.space l.list)

abbrev pub decreases-loop-record : goal.decreases-loop-record
decreases-loop-record l = length l.list - l.at
