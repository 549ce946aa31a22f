-- What is seen of a file in memory beside its trait, and what its calls leave.
use Rattle.std.specs.Prelude.{◌≡◌, ℕ, List, length, map, take, Result, IsErr}
use Rattle.srv_edge.specs.Contents.{shown}
use Rattle.srv_edge.specs.Count.{Counts, HasCause}
use Rattle.srv_edge.specs.Disk.{Among, Elapses}
use Rattle.srv_edge.specs.Replay.{IsImageOf, Keeps, LeftSince, State, state_of}
use Rattle.srv_edge.specs.declared.memory_device.MemDevice.{MemDevice}
use Rattle.srv_edge.specs.declared.memory_record.Call.{Call}
use Rattle.srv_edge.specs.declared.memory_record.CallKind.{CallKind}

-- the file as it was at first
abbrev pub first_file : MemDevice → List ℕ
first_file d = d.file.first.items

-- the calls that were kept
abbrev pub record_of : MemDevice → List Call
record_of d = d.calls.items

-- what each of them was
abbrev pub kinds_of : MemDevice → List CallKind
kinds_of d = map (λ c. c.kind) d.calls.items

-- the calls that are to fail, counted from 0
abbrev pub failing_calls : MemDevice → List ℕ
failing_calls d = d.fail.items

-- what a read gives
abbrev pub seen_by : MemDevice → List ℕ
seen_by d = shown d.file

-- the state after so many calls
abbrev pub state_at : MemDevice → ℕ → State
state_at d calls = state_of (first_file d) (take calls (record_of d))

-- what a crash now may leave
abbrev pub images_of : MemDevice → List ℕ → Type 0
images_of d = IsImageOf (state_of (first_file d) (record_of d))

-- time goes on from one state of it to another
abbrev pub TimeElapses : MemDevice → MemDevice → Type 0
TimeElapses old new =
    Elapses (length (record_of old)) (length (record_of new)) (LeftSince (first_file old) (record_of old)) (LeftSince (first_file new) (record_of new)) (images_of new)

-- A call's fault is counted: the count rises by one where it fails and at nothing else. The calls that are to fail stay.
pub record CountsIn {A E : Type 0} (old : MemDevice) (result : Result A E) (new : MemDevice) : Type 0 where
  pub fails : failing_calls new ≡ failing_calls old
  pub counted : Counts old.faults.count result new.faults.count
  pub cause : HasCause (IsErr result) old.faults.count new.faults.count

-- A call with these bytes is kept, and its fault is counted. The file at first stays.
pub record KeepsCall {A E : Type 0} (old : MemDevice) (kind : CallKind) (bytes : List ℕ) (result : Result A E) (new : MemDevice) : Type 0 where
  pub kept : Keeps (failing_calls old) (record_of old) kind bytes result (record_of new)
  pub first : first_file new ≡ first_file old
  pub counted : CountsIn old result new

-- A call that is no write leaves what a read gives, and a crash leaves no other file.
pub record LeavesStill (old new : MemDevice) : Type 0 where
  pub seen : seen_by new ≡ seen_by old
  pub crash : Among (images_of old) (images_of new)
  pub time : TimeElapses old new
