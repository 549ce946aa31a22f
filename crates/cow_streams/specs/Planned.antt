-- The plan of a commit as one value: the new image, and the blocks that are written.
use Rattle.std.specs.Prelude.{◌≡◌, ◌≤◌, ℕ, ◌+◌, ◌-◌, ◌*◌, ◌/◌, ◌==◌, not, List, [], ◌∷◌, ◌++◌, length, map, take, drop, slice_index, Option}
use Rattle.std.specs.List.{flat_map, list_any, range_with_len}
use Rattle.srv_edge.specs.Disk.{splice}
use Rattle.msf_blocks.specs.declared.superblock.Super.{Super}
use Rattle.msf_blocks.specs.Blocks.{block_offset, blocks_of_size, map_block, map_blocks}
use Rattle.msf_blocks.specs.Edit.{StreamEdit}
use Rattle.free_page_maps.specs.FreeBlocks.{FreeBlocks, unreserved_where}
use Rattle.free_page_maps.specs.MapText.{map_text}
use Rattle.stream_directory.specs.Directory.{StreamBlocks, directory_text, word}
use Rattle.msf_image.specs.declared.image.Image.{Image}
use Rattle.msf_image.specs.Packed.{block_of, directory_len}
use Rattle.msf_image.specs.Reads.{block_bytes, used_blocks}
use Rattle.cow_streams.specs.Layout.{Layout, all_parts, kept_in, laid, layouts, pieces}
use Rattle.cow_streams.specs.Supply.{blocks_with, supply}

-- a whole block to be written
pub record Write : Type 0 where
  pub block : ℕ
  pub bytes : List ℕ

-- the new image, and the writes in the order in which they are made: new blocks in rising number, then those of the map
pub record Planned : Type 0 where
  pub image : Image
  pub writes : List Write

-- bytes cut into whole blocks, the last filled up with zeros
abbrev pub blocks_of : ℕ → List ℕ → List (List ℕ)
blocks_of block_size bytes = map (block_of block_size bytes) (range_with_len 0 (blocks_of_size block_size (length bytes)))

-- what blocks get, each the next
abbrev pub writes_to : List (List ℕ) → List ℕ → List Write
writes_to [] blocks = []
writes_to (x ∷ bytes) blocks = record { block = slice_index blocks 0; bytes = x } ∷ writes_to bytes (drop 1 blocks)

-- the writes of the blocks of a map that carry meaning
abbrev pub map_writes : Super → List ℕ → List Write
map_writes s text =
    map (λ j. record { block = map_block s.block s.map j; bytes = block_of s.block text j }) (range_with_len 0 (map_blocks s.block s.blocks))

-- the image of these parts
abbrev pub image_of : Super → List (Option StreamBlocks) → FreeBlocks → Image
image_of head directory free = record { head = head; directory = directory; free = free }

-- Every unreserved block of a file with this superblock that is none of the block map, the blocks listed for the directory,
-- and those of the streams.
abbrev pub free_after : Super → List ℕ → List (Option StreamBlocks) → FreeBlocks
free_after s listed streams = unreserved_where s.block s.blocks (λ b. not (list_any (λ x. x == b) (used_blocks (s.map_addr ∷ listed) streams)))

module _ (old : Image) (edits : List StreamEdit) where
  -- the streams after the edits
  unfoldable pub new_layouts : List (Option Layout)
  new_layouts = layouts old.head.block edits old.directory

  -- the stream blocks that keep their numbers
  abbrev pub kept_blocks : List ℕ
  kept_blocks = kept_in (all_parts new_layouts)

  -- how many stream blocks are written
  unfoldable pub written_count : ℕ
  written_count = length (pieces (all_parts new_layouts))

  -- how many bytes and blocks the new directory has
  unfoldable pub new_dir_bytes : ℕ
  new_dir_bytes = directory_len (length new_layouts) (length (all_parts new_layouts))

  abbrev pub new_dir_blocks : ℕ
  new_dir_blocks = blocks_of_size old.head.block new_dir_bytes

  -- The blocks that are given: to the streams by number, each from the low blocks to the high ones, then to the
  -- directory, and the last to the block map.
  unfoldable pub given_blocks : List ℕ
  given_blocks = supply old.head.block old.head.blocks old.free.free (written_count + new_dir_blocks + 1)

  unfoldable pub new_directory : List (Option StreamBlocks)
  new_directory = laid new_layouts given_blocks

  -- the blocks of the directory
  unfoldable pub new_listed : List ℕ
  new_listed = take new_dir_blocks (drop written_count given_blocks)

  unfoldable pub new_map_addr : ℕ
  new_map_addr = slice_index given_blocks (written_count + new_dir_blocks)

  unfoldable pub new_blocks : ℕ
  new_blocks = blocks_with old.head.blocks given_blocks

  abbrev pub new_head : Super
  new_head = record {
    block = old.head.block;
    map = 3 - old.head.map;
    blocks = new_blocks;
    dir_bytes = new_dir_bytes;
    unknown = old.head.unknown;
    map_addr = new_map_addr;
  }

  -- every unreserved block below the number of blocks that the new image does not use
  unfoldable pub new_free : FreeBlocks
  new_free = free_after new_head new_listed new_directory

  abbrev pub new_image : Image
  new_image = image_of new_head new_directory new_free

  -- What the given blocks get: the new blocks of the streams, the text of the directory, and the numbers of its blocks.
  unfoldable pub new_pieces : List (List ℕ)
  new_pieces = pieces (all_parts new_layouts)
      ++ (blocks_of old.head.block (directory_text new_directory) ++ block_of old.head.block (flat_map word new_listed) 0 ∷ [])

  abbrev pub block_writes : List Write
  block_writes = writes_to new_pieces given_blocks

  abbrev pub planned : Planned
  planned = record {
    image = new_image;
    writes = block_writes ++ map_writes new_head (map_text old.head.block new_free);
  }

  -- the directory is no larger than a block can list
  abbrev pub FitsDirectory : Type 0
  FitsDirectory = new_dir_bytes ≤ old.head.block * old.head.block / 4

-- a write that stands in a file
abbrev pub Stands : ℕ → List ℕ → Write → Type 0
Stands block_size file w = block_bytes block_size file w.block ≡ w.bytes

-- a file with these writes made, one after another
abbrev pub with_writes : ℕ → List ℕ → List Write → List ℕ
with_writes block_size file [] = file
with_writes block_size file (w ∷ writes) =
    with_writes block_size (splice file (block_offset block_size w.block) w.bytes) writes
