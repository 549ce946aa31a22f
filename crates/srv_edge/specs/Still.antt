-- What is seen of a file in a memory of fixed size.
use Rattle.std.specs.Prelude.{◌≡◌, ℕ, List, Result, IsErr, MatchResult}
use Rattle.srv_edge.specs.Count.{Counts, HasCause}
use Rattle.srv_edge.specs.declared.still.StillDevice.{StillDevice}

-- the most bytes that the file may have
abbrev pub room_of : StillDevice → ℕ
room_of d = d.room

-- the bytes of the file
abbrev pub still_bytes : StillDevice → List ℕ
still_bytes d = d.bytes.items

-- A call of it: its count rises by one where the call fails and at nothing else, and its room stays.
pub record CallsStill {A E : Type 0} (old : StillDevice) (result : Result A E) (new : StillDevice) : Type 0 where
  pub room : room_of new ≡ room_of old
  pub counted : Counts old.faults.count result new.faults.count
  pub cause : HasCause (IsErr result) old.faults.count new.faults.count

-- a write leaves these bytes, and where it fails those from before
abbrev pub Leaves : {A E : Type 0} → Result A E → StillDevice → List ℕ → StillDevice → Type 0
Leaves result old bytes new =
    MatchResult result (λ _. still_bytes new ≡ bytes) (λ _. still_bytes new ≡ still_bytes old)
