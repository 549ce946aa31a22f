-- A directory read from left to right, or the first damage that is met.
use Rattle.std.specs.Prelude.{ℕ, zero, suc, ◌+◌, ◌*◌, ◌==◌, not, nat_lt, if◌then◌else◌, Bool, List, [], ◌∷◌, ◌++◌, length, take, drop, slice_index, Option, Some, None, Result, Ok, Err}
use Rattle.std.specs.List.{list_any, sum_by}
use Rattle.std.specs.Option.{option_or}
use Rattle.byteorder.specs.Endian.{little_number}
use Rattle.msf_blocks.specs.declared.superblock.Super.{Super}
use Rattle.msf_blocks.specs.Blocks.{is_reserved}
use Rattle.msf_blocks.specs.Judging.{◌>>=◌, first_damage, unless}
use Rattle.stream_directory.specs.declared.fault.DirDamage.{DirDamage}
use Rattle.stream_directory.specs.declared.fault.DirDamage.TheVariants.{Short, Extra, ReservedBlock, OutsideFile, BlockTwice}
use Rattle.stream_directory.specs.declared.fault.DirFault.{DirFault}
use Rattle.stream_directory.specs.declared.fault.DirFault.TheVariants as fault
use Rattle.stream_directory.specs.Directory.{StreamBlocks, absent_size, block_count, skipped_count}

-- the whole numbers of four bytes in the bytes
unfoldable pub words_in : List ℕ → List ℕ
words_in (a ∷ b ∷ c ∷ d ∷ bytes) = little_number 4 (a ∷ b ∷ c ∷ d ∷ []) ∷ words_in bytes
words_in _ = []

-- So many fields from a place of the text on, and the words behind them; or the place of the first field that does not fit.
unfoldable pub fields_at : ℕ → ℕ → List ℕ → Result (List ℕ × List ℕ) DirDamage
fields_at at zero words = Ok ([], words)
fields_at at (suc n) [] = Err (Short at)
fields_at at (suc n) (word ∷ words) = do
  others ← fields_at (at + 4) n words
  Ok (word ∷ others.0, others.1)

-- the sizes of the streams, and the block numbers
unfoldable pub parts_of : ℕ → List ℕ → Result (List ℕ × List ℕ) DirDamage
parts_of block_size bytes = do
  count ← fields_at 0 1 (words_in bytes)
  sizes ← fields_at 4 (slice_index count.0 0) count.1
  numbers ← fields_at (4 + 4 * length sizes.0) (sum_by (block_count block_size) sizes.0) sizes.1
  let end = 4 + 4 * length sizes.0 + 4 * length numbers.0
  unless (first_damage ((end == length bytes, Extra end) ∷ [])) (sizes.0, numbers.0)

-- the damage of a block, which is used already or not
abbrev pub block_damage : Super → Bool → ℕ → Option DirDamage
block_damage s is_used b =
    first_damage ((not (is_reserved s.block b), ReservedBlock b) ∷ (nat_lt b s.blocks, OutsideFile b) ∷ (not is_used, BlockTwice b) ∷ [])

-- the damage of the first block that has one, behind these used ones
unfoldable pub first_bad : Super → List ℕ → List ℕ → Option DirDamage
first_bad s earlier [] = None
first_bad s earlier (b ∷ blocks) =
    option_or (block_damage s (list_any (λ x. x == b) earlier) b) (first_bad s (earlier ++ b ∷ []) blocks)

abbrev pub stream_of : ℕ → List ℕ → Option StreamBlocks
stream_of size blocks = if size == absent_size then None else Some (record { size = size; blocks = blocks })

-- the streams with their blocks
abbrev pub streams_of : ℕ → List ℕ → List ℕ → List (Option StreamBlocks)
streams_of block_size [] numbers = []
streams_of block_size (size ∷ sizes) numbers =
    stream_of size (take (block_count block_size size) numbers) ∷ streams_of block_size sizes (drop (block_count block_size size) numbers)

-- the same, with stream 0 without its blocks, which are cut off
abbrev pub directory_of : ℕ → List ℕ → List ℕ → List (Option StreamBlocks)
directory_of block_size [] numbers = []
directory_of block_size (size ∷ sizes) numbers = stream_of size [] ∷ streams_of block_size sizes numbers

-- what the bytes tell of a file with this superblock, where these blocks are used already
unfoldable pub reading : Super → List ℕ → List ℕ → Result (List (Option StreamBlocks)) DirDamage
reading s earlier bytes = do
  parts ← parts_of s.block bytes
  let kept = drop (skipped_count s.block parts.0) parts.1 in unless (first_bad s earlier kept) (directory_of s.block parts.0 kept)

-- the damage in a fault
abbrev pub directory_damage : DirFault → Option DirDamage
directory_damage (fault.Damage damage) = Some damage
directory_damage fault.OutOfMemory = None
