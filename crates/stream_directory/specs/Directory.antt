-- The directory: its streams, and the text of them.
use Rattle.std.specs.Prelude.{◌≡◌, ◌<◌, ℕ, ◌^◌, ◌==◌, false, if◌then◌else◌, List, [], ◌∷◌, ◌++◌, length, map, slice_index_or, Option, Some, None}
use Rattle.std.specs.List.{AllByRecursion, flat_map, list_any}
use Rattle.byteorder.specs.Endian.{little_bytes}
use Rattle.msf_blocks.specs.declared.superblock.Super.{Super}
use Rattle.msf_blocks.specs.Blocks.{IsReserved, blocks_of_size}

-- a stream: how many bytes it has, and the blocks that hold them
pub record StreamBlocks : Type 0 where
  pub size : ℕ
  pub blocks : List ℕ

-- the size that marks an absent stream
abbrev pub absent_size : ℕ
absent_size = 4294967295

-- A directory is a list of streams, each of which may be absent.
abbrev pub size_field : Option StreamBlocks → ℕ
size_field None = absent_size
size_field (Some stream) = stream.size

-- the stream of a number, if there is one
abbrev pub stream_at : List (Option StreamBlocks) → ℕ → Option StreamBlocks
stream_at streams i = slice_index_or streams i None

abbrev pub blocks_in : Option StreamBlocks → List ℕ
blocks_in None = []
blocks_in (Some stream) = stream.blocks

-- how many blocks a stream has by its size
abbrev pub block_count : ℕ → ℕ → ℕ
block_count block_size size = if size == absent_size then 0 else blocks_of_size block_size size

-- a number as four bytes, the lowest first
abbrev pub word : ℕ → List ℕ
word n = little_bytes 4 n

-- The numbers of a directory: how many streams there are, their sizes, and the blocks of each in order.
-- Before the blocks of the streams stand those of stream 0 that are not kept.
abbrev pub numbers_behind : List ℕ → List (Option StreamBlocks) → List ℕ
numbers_behind skipped streams = length streams ∷ (map size_field streams ++ (skipped ++ flat_map blocks_in streams))

unfoldable pub directory_text : List (Option StreamBlocks) → List ℕ
directory_text streams = flat_map word (numbers_behind [] streams)

-- how many blocks stream 0 has by its size
abbrev pub skipped_count : ℕ → List ℕ → ℕ
skipped_count block_size [] = 0
skipped_count block_size (size ∷ sizes) = block_count block_size size

-- Bytes stand for streams where they are their text, whatever numbers stand at stream 0.
pub record Spells (block_size : ℕ) (bytes : List ℕ) (streams : List (Option StreamBlocks)) : Type 0 where
  pub skipped : List ℕ
  pub words : AllByRecursion (λ b. b < 2 ^ 32) skipped
  pub count : length skipped ≡ skipped_count block_size (map size_field streams)
  pub text : bytes ≡ flat_map word (numbers_behind skipped streams)

-- a stream of which the blocks are kept
abbrev pub IsSized : ℕ → Option StreamBlocks → Type 0
IsSized block_size None = Unit {0}
IsSized block_size (Some stream) = (stream.size < absent_size) × (length stream.blocks ≡ blocks_of_size block_size stream.size)

-- stream 0, of which they are not
abbrev pub IsFirst : Option StreamBlocks → Type 0
IsFirst None = Unit {0}
IsFirst (Some stream) = (stream.size < absent_size) × (stream.blocks ≡ [])

abbrev pub AreSized : ℕ → List (Option StreamBlocks) → Type 0
AreSized block_size [] = Unit {0}
AreSized block_size (first ∷ streams) = IsFirst first × AllByRecursion (IsSized block_size) streams

-- blocks that streams may have: each is unreserved, in the file, and among neither the earlier blocks nor the others
abbrev pub AreUsable : Super → List ℕ → List ℕ → Type 0
AreUsable s earlier [] = Unit {0}
AreUsable s earlier (b ∷ blocks) =
    (¬ IsReserved s.block b) × (b < s.blocks) × (list_any (λ x. x == b) earlier ≡ false) × AreUsable s (earlier ++ b ∷ []) blocks

-- the directory of a file with this superblock, whose blocks come behind these used ones
pub record IsDirectory (s : Super) (earlier : List ℕ) (streams : List (Option StreamBlocks)) : Type 0 where
  pub few : length streams < 2 ^ 32
  pub sized : AreSized s.block streams
  pub usable : AreUsable s earlier (flat_map blocks_in streams)
