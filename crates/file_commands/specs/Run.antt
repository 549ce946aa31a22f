-- What a run is asked for, and what it leaves as it was.
use Rattle.std.specs.Prelude.{◌≡◌, ⊤, IsTrue, Option, Some, None}
use Rattle.command_words.specs.declared.plan.Plan.{Plan}
use Rattle.command_words.specs.declared.plan.Plan.TheVariants as plan
use Rattle.srv_edge.specs.declared.sink.Sink as sink
use Rattle.srv_edge.specs.declared.source.Source as source
use Rattle.program_status.specs.declared.status.Status.{Status}
use Rattle.program_status.specs.declared.status.Status.TheVariants as status

-- a status with which nothing was read and nothing given
abbrev pub IsEarly : Status → Type 0
IsEarly status.Ok = ⊥
IsEarly status.Usage = ⊤
IsEarly status.ReadFault = ⊥
IsEarly status.WriteFault = ⊥
IsEarly status.TooLong = ⊥
IsEarly status.OutOfMemory = ⊤
IsEarly status.DiskFault = ⊥
IsEarly (status.Damage kind place) = ⊥
IsEarly status.CutShort = ⊥
IsEarly status.BadLength = ⊥
IsEarly status.DoorFault = ⊥
IsEarly status.NotEmpty = ⊥

-- nothing was read of a source that tells it
abbrev pub IsUnread : {S : Type 0} → source.Ghosts S → S → S → Type 0
IsUnread s old new = IsTrue s.tells → (s.given new ≡ s.given old) × (s.left new ≡ s.left old)

-- nothing went to a sink that tells it
abbrev pub IsUnsent : {K : Type 0} → sink.Ghosts K → K → K → Type 0
IsUnsent k old new = IsTrue k.tells → k.taken new ≡ k.taken old

-- a plan that `run` does
abbrev pub IsOfRun : Option Plan → Type 0
IsOfRun (Some (plan.Session path)) = ⊤
IsOfRun (Some (plan.Init path block guid signature)) = ⊤
IsOfRun (Some (plan.Check path)) = ⊤
IsOfRun (Some (plan.Dump path)) = ⊤
IsOfRun (Some (plan.Gen units seed)) = ⊤
IsOfRun (Some (plan.Serve path listen sessions workers)) = ⊥
IsOfRun None = ⊥

-- a plan by which `run` asks the device that it is given
abbrev pub AsksDevice : Option Plan → Type 0
AsksDevice (Some (plan.Session path)) = ⊤
AsksDevice (Some (plan.Init path block guid signature)) = ⊤
AsksDevice (Some (plan.Check path)) = ⊤
AsksDevice (Some (plan.Dump path)) = ⊤
AsksDevice (Some (plan.Gen units seed)) = ⊥
AsksDevice (Some (plan.Serve path listen sessions workers)) = ⊥
AsksDevice None = ⊥

-- the plan of a session
abbrev pub IsSession : Option Plan → Type 0
IsSession (Some (plan.Session path)) = ⊤
IsSession (Some (plan.Init path block guid signature)) = ⊥
IsSession (Some (plan.Check path)) = ⊥
IsSession (Some (plan.Dump path)) = ⊥
IsSession (Some (plan.Gen units seed)) = ⊥
IsSession (Some (plan.Serve path listen sessions workers)) = ⊥
IsSession None = ⊥

-- a plan by which `run` writes to its file
abbrev pub Writes : Option Plan → Type 0
Writes (Some (plan.Session path)) = ⊤
Writes (Some (plan.Init path block guid signature)) = ⊤
Writes (Some (plan.Check path)) = ⊥
Writes (Some (plan.Dump path)) = ⊥
Writes (Some (plan.Gen units seed)) = ⊥
Writes (Some (plan.Serve path listen sessions workers)) = ⊥
Writes None = ⊥
