-- Where the index fields of a record lie.
use Rattle.std.specs.Prelude.{◌≡◌, ◌≤◌, ℕ, ◌+◌, nat_le, nat_lt, Bool, false, ◌&&◌, ◌||◌, List, [], ◌∷◌, length, map, slice_index}
use Rattle.leaf_grammar.specs.declared.grammar.Space.{Space}
use Rattle.index_fields.specs.Fields.{Field}

-- Fields lie between two places, one behind another: each has four bytes, and none begins within another.
abbrev pub LieBetween : ℕ → ℕ → List Field → Type 0
LieBetween from end [] = from ≤ end
LieBetween from end (f ∷ fields) = (from ≤ f.at) × LieBetween (f.at + 4) end fields

-- whether one of the fields has the byte at a place
abbrev pub has_byte : List Field → ℕ → Bool
has_byte [] k = false
has_byte (f ∷ fields) k = (nat_le f.at k && nat_lt k (f.at + 4)) || has_byte fields k

-- the spaces that fields name, and their places
abbrev pub places : List Field → List (Space × ℕ)
places fields = map (λ f. (f.space, f.at)) fields

-- A record has as many bytes as another, and the same ones outside these fields.
pub record SameOutside (fields : List Field) (old new : List ℕ) : Type 0 where
  pub same_length : length new ≡ length old
  pub same_bytes : (k : ℕ) → has_byte fields k ≡ false → slice_index new k ≡ slice_index old k
