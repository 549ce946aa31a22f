-- The free blocks of a file.
use Rattle.std.specs.Prelude.{◌≡◌, ◌≤◌, ◌<◌, ℕ, ◌==◌, ◌&&◌, not, Bool, true, false, List, filter}
use Rattle.std.specs.List.{list_any, range_with_len}
use Rattle.msf_blocks.specs.Bits.{has_bit}
use Rattle.msf_blocks.specs.Blocks.{is_reserved}

-- how many blocks a file has, and its free blocks in rising order
pub record FreeBlocks : Type 0 where
  pub blocks : ℕ
  pub free : List ℕ

-- the numbers below n that pass a test, in rising order
unfoldable pub below_where : ℕ → (ℕ → Bool) → List ℕ
below_where n test = filter test (range_with_len 0 n)

-- every unreserved block of a file of so many blocks that passes a test
abbrev pub unreserved_where : ℕ → ℕ → (ℕ → Bool) → FreeBlocks
unreserved_where block_size blocks test =
    record { blocks = blocks; free = below_where blocks (λ b. not (is_reserved block_size b) && test b) }

-- what a map tells, of which the blocks are joined: every unreserved block whose bit is 1
abbrev pub free_in : ℕ → ℕ → List ℕ → FreeBlocks
free_in block_size blocks maps = unreserved_where block_size blocks (has_bit maps)

abbrev pub is_free : FreeBlocks → ℕ → Bool
is_free m b = list_any (λ free. free == b) m.free

-- the least free block from a block on
pub record IsLeastFree (m : FreeBlocks) (from b : ℕ) : Type 0 where
  pub among : is_free m b ≡ true
  pub enough : from ≤ b
  pub least : (k : ℕ) → from ≤ k → k < b → is_free m k ≡ false

-- the same with one block that is not free
abbrev pub without : FreeBlocks → ℕ → FreeBlocks
without m b = record { blocks = m.blocks; free = filter (λ k. not (k == b)) m.free }
