-- Names in one run of bytes: the strings of the stream `/names` behind the NUL of the empty name.
use Rattle.std.specs.Prelude.{◌≡◌, ◌<◌, ◌+◌, ◌^◌, ◌==◌, ℕ, List, [], ◌∷◌, ◌++◌, get_or, length, All, if◌then◌else◌}
use Rattle.names_table.specs.Names.{IsName, bytes_of}

-- the strings of names: each has a NUL behind it
abbrev pub strings_of : List (List ℕ) → List ℕ
strings_of [] = []
strings_of (x ∷ names) = x ++ 0 ∷ strings_of names

-- where each name begins, if the first of all begins at `start`
abbrev pub starts_from : ℕ → List (List ℕ) → List ℕ
starts_from start [] = []
starts_from start (x ∷ names) = start ∷ starts_from (start + length x + 1) names

-- the names with a byte more before the first of them
abbrev pub with_byte : ℕ → List (List ℕ) → List (List ℕ)
with_byte b [] = (b ∷ []) ∷ []
with_byte b (x ∷ names) = (b ∷ x) ∷ names

-- the names that the bytes are the strings of: one ends before each NUL
abbrev pub names_cut : List ℕ → List (List ℕ)
names_cut [] = []
names_cut (b ∷ bytes) = if b == 0 then [] ∷ names_cut bytes else with_byte b (names_cut bytes)

-- The bytes are the strings of names, and these are the offsets at which they begin: the first behind the NUL of the empty name.
pub record AreStrings (bytes starts : List ℕ) : Type 0 where
  pub names : All IsName (names_cut bytes)
  pub joined : bytes ≡ strings_of (names_cut bytes)
  pub begin : starts ≡ starts_from 1 (names_cut bytes)
  pub short : bytes_of (names_cut bytes) < 2 ^ 32

-- the name at a place ends here among the bytes: its NUL stands here
abbrev pub EndsAt : List ℕ → List ℕ → ℕ → ℕ → Type 0
EndsAt bytes starts place end = end + 1 ≡ get_or starts place 0 + length (get_or (names_cut bytes) place [])
