-- What calls leave of a device that they only read.
use Rattle.std.specs.Prelude.{◌≡◌, ◌≤◌}
use Rattle.srv_edge.specs.Disk.{LeavesOnly}
use Rattle.srv_edge.specs.declared.device.Device.{Ghosts}

-- What a read gives stays; a crash at any moment leaves what it might have left at the start; the
-- references are the same; and the count of faults does not fall.
pub record OnlyReads {D : Type 0} (device : Ghosts D) (old new : D) : Type 0 where
  pub seen : device.seen new ≡ device.seen old
  pub any_moment : LeavesOnly device.moment device.left_since old new (device.may_leave old)
  pub loans : device.loans new ≡ device.loans old
  pub never_falls : device.fault_count old ≤ device.fault_count new
