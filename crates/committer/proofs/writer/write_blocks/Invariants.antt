use Rattle.std.proofs.Common.{◌≡◌, ◌≤◌, ℕ, List, IsTrue, drop}
use Rattle.srv_edge.specs.Disk.{LeavesOnly}
use Rattle.cow_streams.specs.Planned.{with_writes}
use Rattle.committer.specs.Change.{Change, IsOld}
use Rattle.committer.specs.Writing.{CanWrite}
use Rattle.committer.proofs.writer.write_blocks.Given as goal

abbrev pub invariant-loop-w : goal.invariant-loop-w
invariant-loop-w g l = record {
  run : (change : Change) → CanWrite change l.block_size l.writes (g.D.Device.may_leave l.fn.device) → LeavesOnly g.D.Device.moment g.D.Device.left_since l.fn.device l.device (IsOld change);
  now : (change : Change) → CanWrite change l.block_size l.writes (g.D.Device.may_leave l.fn.device) → (y : List ℕ) → g.D.Device.may_leave l.device y → IsOld change y;
  -- what is left to be written makes the same of the file
  rest : IsTrue g.D.Device.tells → with_writes l.block_size (g.D.Device.seen l.device) (drop l.w-index l.writes) ≡ with_writes l.block_size (g.D.Device.seen l.fn.device) l.writes;
  falls : g.D.Device.fault_count l.fn.device ≤ g.D.Device.fault_count l.device;
  loans : g.D.Device.loans l.device ≡ g.D.Device.loans l.fn.device;
}
