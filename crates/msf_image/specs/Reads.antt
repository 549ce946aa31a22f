-- What a file reads as: its superblock, its directory and its free blocks; or its first damage.
use Rattle.std.specs.Prelude.{◌≡◌, ◌≤◌, ◌<◌, ◌*◌, ℕ, List, [], ◌∷◌, ◌++◌, length, All, map, take, drop, find, false, Option, Some, None, Result}
use Rattle.std.specs.List.{flat_map, range_with_len}
use Rattle.std.specs.List.Sorted.{IsStrictlyIncreasing}
use Rattle.msf_blocks.specs.declared.superblock.Super.{Super}
use Rattle.msf_blocks.specs.Blocks.{IsReserved, blocks_of_size, block_offset, map_block, map_blocks}
use Rattle.msf_blocks.specs.Judging.{◌>>=◌, told_by, unless}
use Rattle.msf_blocks.specs.Superblock.{IsSuper, superblock_told}
use Rattle.free_page_maps.specs.FreeBlocks.{FreeBlocks, free_in, is_free}
use Rattle.stream_directory.specs.Directory.{AreUsable, IsDirectory, StreamBlocks, blocks_in}
use Rattle.stream_directory.specs.Reading.{first_bad, reading, words_in}
use Rattle.msf_image.specs.declared.fault.Damage.{Damage}
use Rattle.msf_image.specs.declared.image.Image.{Image}
use Rattle.msf_image.specs.Faults.{damage_of_directory, damage_of_superblock, free_damage}

-- a file is no shorter than its blocks
abbrev pub HasBlocks : List ℕ → Super → Type 0
HasBlocks file s = s.blocks * s.block ≤ length file

-- the bytes of a block
abbrev pub block_bytes : ℕ → List ℕ → ℕ → List ℕ
block_bytes block_size file b = take block_size (drop (block_offset block_size b) file)

-- the bytes of these blocks, joined
abbrev pub bytes_of_blocks : ℕ → List ℕ → List ℕ → List ℕ
bytes_of_blocks block_size file blocks = flat_map (block_bytes block_size file) blocks

-- the superblock, unless it fails a test
unfoldable pub superblock_in : List ℕ → ℕ → Result Super Damage
superblock_in file limit = told_by damage_of_superblock (superblock_told (take 56 file) (length file) limit)

-- The blocks in which the directory lies are listed in one block, the block map.
abbrev pub directory_blocks : List ℕ → Super → List ℕ
directory_blocks file s = take (blocks_of_size s.block s.dir_bytes) (words_in (block_bytes s.block file s.map_addr))

-- the block map and the blocks of the directory, unless one of them is none that may be used
unfoldable pub listed_blocks : List ℕ → Super → Result (List ℕ) Damage
listed_blocks file s =
    let blocks = s.map_addr ∷ directory_blocks file s in told_by damage_of_directory (unless (first_bad s [] blocks) blocks)

-- the streams of the file, of which these blocks are used already
unfoldable pub streams_in : List ℕ → Super → List ℕ → Result (List (Option StreamBlocks)) Damage
streams_in file s listed = told_by damage_of_directory (reading s listed (take s.dir_bytes (bytes_of_blocks s.block file (drop 1 listed))))

-- the blocks of the active free block map, of which the last may carry meaning in part
abbrev pub active_map_blocks : Super → List ℕ
active_map_blocks s = map (map_block s.block s.map) (range_with_len 0 (map_blocks s.block s.blocks))

-- the free blocks of the file
unfoldable pub free_blocks_in : List ℕ → Super → FreeBlocks
free_blocks_in file s = free_in s.block s.blocks (bytes_of_blocks s.block file (active_map_blocks s))

-- the blocks that are used, in the order in which they are judged
abbrev pub used_blocks : List ℕ → List (Option StreamBlocks) → List ℕ
used_blocks listed streams = listed ++ flat_map blocks_in streams

-- an image, unless a used block of it is free
unfoldable pub with_free : List ℕ → Image → Result Image Damage
with_free used image = told_by free_damage (unless (find (is_free image.free) used) image)

-- What a file reads as that may have so many blocks: each test in its order, and the first that fails is its damage.
unfoldable pub read_file : List ℕ → ℕ → Result Image Damage
read_file file limit = do
  s ← superblock_in file limit
  listed ← listed_blocks file s
  streams ← streams_in file s listed
  with_free (used_blocks listed streams) (record { head = s; directory = streams; free = free_blocks_in file s })

-- what stands of a file that was opened, whatever bytes the device gave
pub record IsWhole (image : Image) : Type 0 where
  pub head : IsSuper image.head
  -- the blocks of the directory, as many as it takes, which the block map lists
  pub blocks : List ℕ
  pub count : length blocks ≡ blocks_of_size image.head.block image.head.dir_bytes
  pub directory : IsDirectory image.head (image.head.map_addr ∷ blocks) image.directory
  -- the used blocks are unreserved, in the file and all different, and none of them is free
  pub usable : AreUsable image.head [] (used_blocks (image.head.map_addr ∷ blocks) image.directory)
  pub none_free : All (λ b. is_free image.free b ≡ false) (used_blocks (image.head.map_addr ∷ blocks) image.directory)
  -- the free blocks are in the file and unreserved
  pub size : image.free.blocks ≡ image.head.blocks
  pub inside : All (λ b. b < image.head.blocks) image.free.free
  pub unreserved : All (λ b. ¬ IsReserved image.head.block b) image.free.free
  -- and listed in rising order
  pub rising : IsStrictlyIncreasing image.free.free

-- The content of a stream: its blocks joined, and cut to its size. An absent stream, and one that is not there, has none.
abbrev pub content_of : List ℕ → Super → Option StreamBlocks → List ℕ
content_of file s None = []
content_of file s (Some stream) = take stream.size (bytes_of_blocks s.block file stream.blocks)
