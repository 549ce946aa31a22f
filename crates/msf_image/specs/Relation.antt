-- What a file reads as, said of its bytes as a whole. docs/FORMAT.md has the format that each fact states.
use Rattle.std.specs.Prelude.{◌≡◌, ◌≤◌, ◌+◌, ◌-◌, ◌⊎◌, ℕ, true, false, List, [], ◌∷◌, ◌++◌, All, map, take, drop, Option, Some, None}
use Rattle.msf_blocks.specs.declared.superblock.Super.{Super}
use Rattle.msf_blocks.specs.Blocks.{block_offset, map_block}
use Rattle.msf_blocks.specs.Superblock.{IsSuper, superblock_text}
use Rattle.free_page_maps.specs.FreeBlocks.{is_free}
use Rattle.stream_directory.specs.Directory.{AreSized, AreUsable, Spells, StreamBlocks}
use Rattle.msf_image.specs.declared.image.Image.{Image}
use Rattle.msf_image.specs.Reads.{HasBlocks, active_map_blocks, block_bytes, bytes_of_blocks, directory_blocks, free_blocks_in, used_blocks}

-- the bytes of the directory: the blocks that the block map lists, joined and cut
abbrev pub directory_in : List ℕ → Super → List ℕ
directory_in file s = take s.dir_bytes (bytes_of_blocks s.block file (directory_blocks file s))

-- the blocks that the image uses: the block map, those of the directory, and those of the streams in order
abbrev pub used_in : List ℕ → Image → List ℕ
used_in file image = used_blocks (image.head.map_addr ∷ directory_blocks file image.head) image.directory

-- The content of a stream: its blocks joined, and cut to its size. An absent stream has none.
abbrev pub stream_in : List ℕ → Super → Option StreamBlocks → Option (List ℕ)
stream_in file s None = None
stream_in file s (Some stream) = Some (take stream.size (bytes_of_blocks s.block file stream.blocks))

-- the contents of the streams from stream 1 on
abbrev pub contents_in : List ℕ → Image → List (Option (List ℕ))
contents_in file image = map (stream_in file image.head) (drop 1 image.directory)

-- A file that may have so many blocks reads as this image, with these contents of its streams from stream 1 on, each
-- absent or bytes.
pub record Reads (file : List ℕ) (limit : ℕ) (image : Image) (streams : List (Option (List ℕ))) : Type 0 where
  -- it begins with the superblock, and has all its blocks
  pub head : IsSuper image.head
  pub text : take 56 file ≡ superblock_text image.head
  pub limited : image.head.blocks ≤ limit
  pub inside : HasBlocks file image.head
  -- its directory is the text of the streams, each with as many blocks as its size takes
  pub spelled : Spells image.head.block (directory_in file image.head) image.directory
  pub sized : AreSized image.head.block image.directory
  -- the used blocks, in their order, are unreserved, in the file and all different
  pub usable : AreUsable image.head [] (used_in file image)
  -- the free blocks are those that the active map tells, and no used block is one of them
  pub free : image.free ≡ free_blocks_in file image.head
  pub none_free : All (λ b. is_free image.free b ≡ false) (used_in file image)
  pub contents : streams ≡ contents_in file image

-- the blocks from which an image is read, besides the superblock
abbrev pub source_blocks : List ℕ → Image → List ℕ
source_blocks file image = used_in file image ++ active_map_blocks image.head

-- Another file has the bytes from which the image of a file is read, and all its blocks.
pub record SameSource (image : Image) (file other : List ℕ) : Type 0 where
  pub head : take 56 other ≡ take 56 file
  pub blocks : All (λ b. block_bytes image.head.block other b ≡ block_bytes image.head.block file b) (source_blocks file image)
  pub long : HasBlocks other image.head

-- n bytes of the file that lie apart from a block
abbrev pub IsApart : ℕ → ℕ → ℕ → ℕ → Type 0
IsApart block_size at n b = (block_offset block_size b + block_size ≤ at) ⊎ (at + n ≤ block_offset block_size b)

-- n bytes from which the image of the file is not read
pub record SparesSource (image : Image) (file : List ℕ) (at n : ℕ) : Type 0 where
  pub head : 56 ≤ at
  pub blocks : All (IsApart image.head.block at n) (source_blocks file image)

-- A block from which an image is not read, whatever the file: a free one, one past its end, or one of the map that is not
-- active.
abbrev pub IsSpare : Image → ℕ → Type 0
IsSpare image b =
    (is_free image.free b ≡ true) ⊎ ((image.head.blocks ≤ b) ⊎ ((j : ℕ) × (b ≡ map_block image.head.block (3 - image.head.map) j)))
