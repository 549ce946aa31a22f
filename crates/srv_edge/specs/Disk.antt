-- What a write and a crash make of a file. Its head is the superblock, the first 56 bytes.
use Rattle.std.specs.Prelude.{◌≡◌, ◌≤◌, ◌<◌, ◌+◌, ◌-◌, ◌++◌, ◌⊎◌, ℕ, List, length, take, drop, replicate, slice_index}

-- The file with these bytes at this place. Between the old end and the place stands the fill.
abbrev pub splice_with : ℕ → List ℕ → ℕ → List ℕ → List ℕ
splice_with fill file at bytes = take at file ++ replicate (at - length file) fill ++ bytes ++ drop (at + length bytes) file

-- the same with zeros there
abbrev pub splice : List ℕ → ℕ → List ℕ → List ℕ
splice file at bytes = splice_with 0 file at bytes

-- the file with this head in the place of its first bytes
abbrev pub with_head : List ℕ → List ℕ → List ℕ
with_head file head = head ++ drop (length head) file

-- A write of n bytes that a crash may cut short: any bytes in the range and past the old end, the same elsewhere.
pub record Torn (at n : ℕ) (old new : List ℕ) : Type 0 where
  pub no_shorter : length old ≤ length new
  pub before : (i : ℕ) → i < length old → i < at → slice_index new i ≡ slice_index old i
  pub behind : (i : ℕ) → i < length old → at + n ≤ i → slice_index new i ≡ slice_index old i

-- a head that is there whole or not at all
abbrev pub Whole : List ℕ → List ℕ → List ℕ → Type 0
Whole head old new = (new ≡ old) ⊎ (new ≡ with_head old head)

-- each new image is an old one after a step
abbrev pub Follows : (List ℕ → List ℕ → Type 0) → (List ℕ → Type 0) → (List ℕ → Type 0) → Type 0
Follows step old new = (c : List ℕ) → new c → (d : List ℕ) × old d × step d c

-- each new image is an old one
abbrev pub Among : (List ℕ → Type 0) → (List ℕ → Type 0) → Type 0
Among old new = (c : List ℕ) → new c → old c

-- a crash leaves this and nothing else
abbrev pub Only : List ℕ → (List ℕ → Type 0) → Type 0
Only file images = (c : List ℕ) → images c → c ≡ file

-- Time goes on: a crash since t might have left what it might have left before, or what it may leave now.
pub record Elapses (before now : ℕ) (past since : ℕ → List ℕ → Type 0) (images : List ℕ → Type 0) : Type 0 where
  pub later : before ≤ now
  pub nothing_else : (t : ℕ) (c : List ℕ) → t ≤ before → since t c → past t c ⊎ images c
  pub keeps : (t : ℕ) (c : List ℕ) → t ≤ before → past t c → since t c

-- A crash at any moment since old leaves a file that has P.
pub record LeavesOnly {D : Type 0} (moment : D → ℕ) (left_since : D → ℕ → List ℕ → Type 0) (old new : D) (P : List ℕ → Type 0) : Type 0 where
  pub later : moment old ≤ moment new
  pub each : (c : List ℕ) → left_since new (moment old) c → P c
  -- for a run that began earlier
  pub before : (t : ℕ) (c : List ℕ) → t ≤ moment old → left_since new t c → left_since old t c ⊎ P c
