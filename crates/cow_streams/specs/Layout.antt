-- The blocks of the streams after edits: each keeps its number, or is written anew.
use Rattle.std.specs.Prelude.{ℕ, ◌+◌, ◌-◌, ◌*◌, ◌/◌, List, [], ◌∷◌, length, map, drop, slice_index, Option, Some, None}
use Rattle.std.specs.List.{flat_map, range_with_len}
use Rattle.msf_blocks.specs.Blocks.{blocks_of_size}
use Rattle.msf_blocks.specs.Edit.{StreamEdit}
use Rattle.stream_directory.specs.Directory.{StreamBlocks}
use Rattle.msf_image.specs.Packed.{block_of}
use Rattle.cow_streams.specs.Edits.{edit_at, len_after}

-- a block that keeps its old number, or one that gets a number and these bytes
pub data Part : Type 0 where
  kept : ℕ → Part
  fresh : List ℕ → Part

-- the numbers of the blocks, where the new ones take these in order
abbrev pub numbers : List Part → List ℕ → List ℕ
numbers [] given = []
numbers (kept b ∷ parts) given = b ∷ numbers parts given
numbers (fresh bytes ∷ parts) given = slice_index given 0 ∷ numbers parts (drop 1 given)

-- what the new blocks hold, in order
abbrev pub pieces : List Part → List (List ℕ)
pieces [] = []
pieces (kept b ∷ parts) = pieces parts
pieces (fresh bytes ∷ parts) = bytes ∷ pieces parts

-- the blocks that keep their numbers
abbrev pub kept_in : List Part → List ℕ
kept_in [] = []
kept_in (kept b ∷ parts) = b ∷ kept_in parts
kept_in (fresh bytes ∷ parts) = kept_in parts

-- the size of a stream, and its parts
pub record Layout : Type 0 where
  pub size : ℕ
  pub parts : List Part

abbrev pub parts_in : Option Layout → List Part
parts_in None = []
parts_in (Some layout) = layout.parts

abbrev pub all_parts : List (Option Layout) → List Part
all_parts layouts = flat_map parts_in layouts

-- a stream, and all streams, where the new blocks take these in order
abbrev pub laid_one : Option Layout → List ℕ → Option StreamBlocks
laid_one None given = None
laid_one (Some layout) given = Some (record { size = layout.size; blocks = numbers layout.parts given })

abbrev pub laid : List (Option Layout) → List ℕ → List (Option StreamBlocks)
laid [] given = []
laid (layout ∷ layouts) given = laid_one layout given ∷ laid layouts (drop (length (pieces (parts_in layout))) given)

-- block k of a stream: anew where an edit has it, or else the old one
abbrev pub part_by : ℕ → List ℕ → ℕ → Option StreamEdit → Part
part_by block_size old k None = kept (slice_index old k)
part_by block_size old k (Some e) = fresh (block_of block_size e.bytes (k - e.at / block_size))

abbrev pub part_at : ℕ → List StreamEdit → ℕ → List ℕ → ℕ → Part
part_at block_size edits i old k = part_by block_size old k (edit_at edits i (k * block_size))

-- the first blocks of stream i after edits
abbrev pub parts_to : ℕ → List StreamEdit → ℕ → List ℕ → ℕ → List Part
parts_to block_size edits i old count = map (part_at block_size edits i old) (range_with_len 0 count)

-- all of them
abbrev pub parts_of : ℕ → List StreamEdit → ℕ → StreamBlocks → List Part
parts_of block_size edits i stream =
    parts_to block_size edits i stream.blocks (blocks_of_size block_size (len_after edits i stream.size))

-- stream i after edits
abbrev pub layout_of : ℕ → List StreamEdit → ℕ → Option StreamBlocks → Option Layout
layout_of block_size edits i None = None
layout_of block_size edits i (Some stream) =
    Some (record { size = len_after edits i stream.size; parts = parts_of block_size edits i stream })

-- the streams from stream i on
abbrev pub layouts_from : ℕ → List StreamEdit → ℕ → List (Option StreamBlocks) → List (Option Layout)
layouts_from block_size edits i [] = []
layouts_from block_size edits i (x ∷ streams) = layout_of block_size edits i x ∷ layouts_from block_size edits (i + 1) streams

-- all streams, of which stream 0 has no bytes from now on
unfoldable pub layouts : ℕ → List StreamEdit → List (Option StreamBlocks) → List (Option Layout)
layouts block_size edits [] = []
layouts block_size edits (x ∷ streams) = Some (record { size = 0; parts = [] }) ∷ layouts_from block_size edits 1 streams

-- what stands for stream 0, if there is one
abbrev pub first_laid : List (Option StreamBlocks) → List (Option StreamBlocks)
first_laid [] = []
first_laid (x ∷ streams) = Some (record { size = 0; blocks = [] }) ∷ []
