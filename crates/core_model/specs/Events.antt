-- The events of the world.
use Rattle.std.specs.Prelude.{ℕ, Bool, List, Option, Some, None}
use Rattle.table_model.specs.declared.call.Call.{Call}
use Rattle.core_model.specs.Files.{DeviceCall, Which}

-- What happens: a call of a pass; a commit that a pass asks for, or begins; a device call of the commit under way,
-- which is done or fails; the end of a pass's commit; the death of a pass's client; a crash; the file opened again.
pub data Event : Type 0 where
  calls : ℕ → Call → Event
  asks_commit : ℕ → Event
  begins : ℕ → Event
  calls_device : DeviceCall → Bool → Event
  ends : ℕ → Event
  dies : ℕ → Event
  crashes : Which → Event
  reopens : List ℕ → Event

-- the pass whose event it is, if it is one of a pass
abbrev pub whose : Event → Option ℕ
whose (calls c call) = Some c
whose (asks_commit c) = Some c
whose (begins c) = Some c
whose (calls_device call ok) = None
whose (ends c) = Some c
whose (dies c) = Some c
whose (crashes which) = None
whose (reopens others) = None
