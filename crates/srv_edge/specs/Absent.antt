-- What is seen of a file of the system.
use Rattle.std.specs.Prelude.{◌≡◌, Bool, true, false, Some, None, Result, IsErr}
use Rattle.srv_edge.specs.Count.{Counts, HasCause}
use Rattle.srv_edge.specs.declared.file.FileDevice.{FileDevice}

-- whether there is no file
abbrev pub is_absent : {F : Type 0} → FileDevice F → Bool
is_absent d = elim d.file [ None ↦ true | Some f ↦ false ]

-- A call of a file: its count rises by one at an error and at nothing else; there is a file as before;
-- and where there is none the call fails.
pub record CallsFile {F A E : Type 0} (old : FileDevice F) (result : Result A E) (new : FileDevice F) : Type 0 where
  pub counted : Counts old.faults.count result new.faults.count
  pub cause : HasCause (IsErr result) old.faults.count new.faults.count
  pub present : is_absent new ≡ is_absent old
  pub absent : is_absent old ≡ true → IsErr result
