-- The statuses of the program: their numbers and words, and what each is of.
use Rattle.std.specs.Prelude.{◌≡◌, ⊤, ℕ, List, Result, Ok, Err, codes}
use Rattle.srv_edge.specs.declared.failed.SessionEnd.{SessionEnd}
use Rattle.srv_edge.specs.declared.failed.SessionEnd.TheVariants as end
use Rattle.msf_image.specs.declared.fault.Damage.{Damage}
use Rattle.msf_image.specs.declared.fault.OpenFault.{OpenFault}
use Rattle.msf_image.specs.declared.fault.OpenFault.TheVariants as fault
use Rattle.table_model.specs.Cut.{Cut}
use Rattle.program_status.specs.declared.status.Status.{Status}
use Rattle.program_status.specs.declared.status.Status.TheVariants as status

-- the exit status of the process
abbrev pub exit_code : Status → ℕ
exit_code status.Ok = 0
exit_code status.Usage = 2
exit_code status.ReadFault = 3
exit_code status.WriteFault = 4
exit_code status.DiskFault = 5
exit_code (status.Damage kind place) = 6
exit_code status.TooLong = 7
exit_code status.OutOfMemory = 8
exit_code status.CutShort = 9
exit_code status.BadLength = 10
exit_code status.DoorFault = 11
exit_code status.NotEmpty = 12

-- the word for a status; a damage has its kind and its place behind it
abbrev pub status_word : Status → List ℕ
status_word status.Ok = codes "ok"
status_word status.Usage = codes "usage"
status_word status.ReadFault = codes "read fault"
status_word status.WriteFault = codes "write fault"
status_word status.DiskFault = codes "disk fault"
status_word (status.Damage kind place) = codes "damage"
status_word status.TooLong = codes "too long"
status_word status.OutOfMemory = codes "out of memory"
status_word status.CutShort = codes "cut short"
status_word status.BadLength = codes "bad length"
status_word status.DoorFault = codes "door fault"
status_word status.NotEmpty = codes "not empty"

-- the status of a session's end
abbrev pub status_of : SessionEnd → Status
status_of end.Bye = status.Ok
status_of end.Ended = status.Ok
status_of end.CutShort = status.CutShort
status_of end.BadLength = status.BadLength
status_of end.ReadFault = status.ReadFault
status_of end.WriteFault = status.WriteFault
status_of end.TooLong = status.TooLong

-- the status where a file did not open
abbrev pub status_of_fault : OpenFault → Status
status_of_fault (fault.Damage kind place) = status.Damage kind place
status_of_fault fault.DiskFault = status.DiskFault
status_of_fault fault.OutOfMemory = status.OutOfMemory

-- the status of what the file holds
abbrev pub status_of_file : Result Cut Damage → Status
status_of_file (Ok cut) = status.Ok
status_of_file (Err damage) = status.Damage damage.kind damage.place

-- The file tells of the status of a session that did not begin: memory is wanted, the device failed, or it has this damage.
abbrev pub IsUnserved : Result Cut Damage → Status → Type 0
IsUnserved told status.OutOfMemory = ⊤
IsUnserved told status.DiskFault = ⊤
IsUnserved told (status.Damage kind place) = told ≡ Err (record { kind = kind; place = place })
IsUnserved told other = ⊥

-- a status with which no session begins, whatever the device tells
abbrev pub MayNotServe : Status → Type 0
MayNotServe status.OutOfMemory = ⊤
MayNotServe status.DiskFault = ⊤
MayNotServe (status.Damage kind place) = ⊤
MayNotServe other = ⊥
