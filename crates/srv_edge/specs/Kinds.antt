-- What the kind of a call on a file says.
use Rattle.std.specs.Prelude.{◌≡◌, ℕ, List, length}
use Rattle.srv_edge.specs.Disk.{Torn, Whole}
use Rattle.srv_edge.specs.declared.memory_record.CallKind.{CallKind}
use Rattle.srv_edge.specs.declared.memory_record.CallKind.TheVariants.{Size, Read, Write, Super, Sync}

-- where a write begins
abbrev pub place_of : CallKind → ℕ
place_of Size = 0
place_of (Read at) = 0
place_of (Write at) = at
place_of Super = 0
place_of Sync = 0

-- a call that is no write
abbrev pub IsStill : CallKind → Type 0
IsStill Size = Unit {0}
IsStill (Read at) = Unit {0}
IsStill (Write at) = ⊥
IsStill Super = ⊥
IsStill Sync = Unit {0}

-- a write, of a range or of the head
abbrev pub IsChange : CallKind → Type 0
IsChange Size = ⊥
IsChange (Read at) = ⊥
IsChange (Write at) = Unit {0}
IsChange Super = Unit {0}
IsChange Sync = ⊥

-- the step that a write may leave to a crash
abbrev pub step_of : CallKind → List ℕ → List ℕ → List ℕ → Type 0
step_of Size bytes old new = new ≡ old
step_of (Read at) bytes old new = new ≡ old
step_of (Write at) bytes old new = Torn at (length bytes) old new
step_of Super bytes old new = Whole bytes old new
step_of Sync bytes old new = new ≡ old
