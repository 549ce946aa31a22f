-- The lowest bit of a list of bytes that is 1.
use Rattle.std.specs.Prelude.{◌≡◌, ◌≤◌, ◌<◌, ℕ, true, false, List, length, slice_index}
use Rattle.msf_blocks.specs.Bits.{has_bit}

-- the lowest bit from a bit on that is 1
pub record IsLowestBit (bits : List ℕ) (from b : ℕ) : Type 0 where
  pub is_one : has_bit bits b ≡ true
  pub enough : from ≤ b
  pub lowest : (k : ℕ) → from ≤ k → k < b → has_bit bits k ≡ false

-- the first byte from a place on that is not 0
pub record IsFirstNonzero (bytes : List ℕ) (from i : ℕ) : Type 0 where
  pub enough : from ≤ i
  pub inside : i < length bytes
  pub nonzero : 0 < slice_index bytes i
  pub zeros : (k : ℕ) → from ≤ k → k < i → slice_index bytes k ≡ 0
