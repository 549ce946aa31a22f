-- The fields of the PDB stream from left to right. docs/FORMAT.md, "The PDB stream".
use Rattle.std.specs.Prelude.{ℕ, zero, suc, ◌-◌, nat_le, if◌then◌else◌, List, [], ◌∷◌, length, take, drop, Result, Ok, Err}
use Rattle.byteorder.specs.Endian.{little_number}
use Rattle.msf_blocks.specs.Judging.{◌>>=◌}
use Rattle.info_stream.specs.declared.fault.InfoFault.{InfoFault}
use Rattle.info_stream.specs.declared.fault.InfoFault.TheVariants.{Short}

-- A field of n bytes, and the bytes behind it; or where the field begins, if it does not fit. The stream
-- has `whole` bytes, and these are the last of them.
abbrev pub field : ℕ → ℕ → List ℕ → Result (List ℕ × List ℕ) InfoFault
field whole n bytes = if nat_le n (length bytes) then Ok (take n bytes, drop n bytes) else Err (Short (whole - length bytes))

-- a number of four bytes
unfoldable pub number : ℕ → List ℕ → Result (ℕ × List ℕ) InfoFault
number whole bytes = do
  four ← field whole 4 bytes
  Ok (little_number 4 four.0, four.1)

-- so many numbers, each a field of its own
unfoldable pub numbers : ℕ → ℕ → List ℕ → Result (List ℕ × List ℕ) InfoFault
numbers whole zero bytes = Ok ([], bytes)
numbers whole (suc n) bytes = do
  first ← number whole bytes
  others ← numbers whole n first.1
  Ok (first.0 ∷ others.0, others.1)

-- a number that says how many follow, and these
unfoldable pub counted : ℕ → List ℕ → Result (List ℕ × List ℕ) InfoFault
counted whole bytes = do
  count ← number whole bytes
  numbers whole count.0 count.1
