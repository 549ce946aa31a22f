-- What a writer may rest on, of any plan.
use Rattle.std.specs.Prelude.{◌≡◌, ◌≤◌, ◌<◌, ◌⊎◌, ℕ, ◌-◌, ◌*◌, ◌==◌, true, List, ◌∷◌, ◌++◌, length, map, take, slice_index, All, Option, Some, None}
use Rattle.std.specs.List.{list_any}
use Rattle.std.specs.List.Sorted.{IsStrictlyIncreasing}
use Rattle.msf_blocks.specs.declared.superblock.Super.{Super}
use Rattle.msf_blocks.specs.Blocks.{IsReserved}
use Rattle.msf_blocks.specs.Edit.{StreamEdit}
use Rattle.msf_blocks.specs.Superblock.{superblock_text}
use Rattle.free_page_maps.specs.FreeBlocks.{is_free}
use Rattle.free_page_maps.specs.MapText.{map_text}
use Rattle.stream_directory.specs.Directory.{StreamBlocks, stream_at}
use Rattle.msf_image.specs.declared.image.Image.{Image}
use Rattle.msf_image.specs.Reads.{HasBlocks, IsWhole, block_bytes, used_blocks}
use Rattle.msf_image.specs.Relation.{IsSpare, Reads}
use Rattle.cow_streams.specs.Edits.{edit_at, edited}
use Rattle.cow_streams.specs.Planned.{Planned, Stands, Write, kept_blocks, map_writes, with_writes}

-- a write of a whole block of the new file from which the old image is not read
pub record IsSparing (old : Image) (new : Super) (w : Write) : Type 0 where
  pub spare : IsSpare old w.block
  pub behind : 1 ≤ w.block
  pub inside : w.block < new.blocks
  pub whole : length w.bytes ≡ old.head.block

-- no write is one of this block
abbrev pub IsUnwritten : List Write → ℕ → Type 0
IsUnwritten writes b = All (λ w. w.block ≡ b → ⊥) writes

-- Another file has the old superblock, and agrees with the old file outside the writes.
pub record KeepsOld (old : Image) (writes : List Write) (file other : List ℕ) : Type 0 where
  pub head : take 56 other ≡ take 56 file
  pub long : HasBlocks other old.head
  pub blocks : (b : ℕ) → 1 ≤ b → b < old.head.blocks → IsUnwritten writes b
      → block_bytes old.head.block other b ≡ block_bytes old.head.block file b

-- Another file has the new superblock and the writes in place, and agrees with the old file on the blocks that are kept.
pub record TakesNew (old : Image) (edits : List StreamEdit) (p : Planned) (file other : List ℕ) : Type 0 where
  pub head : take 56 other ≡ superblock_text p.image.head
  pub long : HasBlocks other old.head
  pub stand : All (Stands old.head.block other) p.writes
  pub kept : All (λ b. block_bytes old.head.block other b ≡ block_bytes old.head.block file b) (kept_blocks old edits)

-- Of stream i before and after edits: both are there or none, and each block that no edit has keeps its number.
abbrev pub SharesBlocks : ℕ → List StreamEdit → ℕ → Option StreamBlocks → Option StreamBlocks → Type 0
SharesBlocks block_size edits i None None = Unit {0}
SharesBlocks block_size edits i None (Some new) = ⊥
SharesBlocks block_size edits i (Some old) None = ⊥
SharesBlocks block_size edits i (Some old) (Some new) =
    (k : ℕ) → k < length new.blocks → edit_at edits i (k * block_size) ≡ None → slice_index new.blocks k ≡ slice_index old.blocks k

-- a plan of these edits, for a file that may have so many blocks
pub record IsPlan (limit : ℕ) (old : Image) (edits : List StreamEdit) (p : Planned) : Type 0 where
  -- the new image may be planned on in turn, and keeps the block size and the number without a known meaning
  pub whole : IsWhole p.image
  pub limited : p.image.head.blocks ≤ limit
  -- an unreserved block of the new file is used or free
  pub complete : (b : ℕ) → b < p.image.head.blocks → ¬ IsReserved p.image.head.block b
      → (is_free p.image.free b ≡ true)
      ⊎ (list_any (λ x. x == b) (used_blocks (p.image.head.map_addr ∷ whole.blocks) p.image.directory) ≡ true)
  pub block : p.image.head.block ≡ old.head.block
  pub unknown : p.image.head.unknown ≡ old.head.unknown
  pub other_map : p.image.head.map ≡ 3 - old.head.map
  -- first the new blocks in rising number, then the blocks of the map that becomes active
  pub news : List Write
  pub order : p.writes ≡ news ++ map_writes p.image.head (map_text old.head.block p.image.free)
  pub rising : IsStrictlyIncreasing (map (λ w. w.block) news)
  -- each is a whole block from which the old image is not read, and stands once all are made, whatever the file was
  pub sparing : All (IsSparing old p.image.head) p.writes
  pub stand : (file : List ℕ) → All (Stands old.head.block (with_writes old.head.block file p.writes)) p.writes
  -- a block that no edit has keeps its number, and is not written
  pub shares : (i : ℕ) → 1 ≤ i → SharesBlocks old.head.block edits i (stream_at old.directory i) (stream_at p.image.directory i)
  pub unwritten : All (IsUnwritten p.writes) (kept_blocks old edits)
  pub unreserved : All (λ b. ¬ IsReserved old.head.block b) (kept_blocks old edits)
  -- with the old superblock a file reads as before, whatever stands in the blocks that are written
  pub keeps : (streams : List (Option (List ℕ))) (file other : List ℕ) → Reads file limit old streams
      → KeepsOld old p.writes file other → Reads other limit old streams
  -- with the new superblock and all writes in place it reads as the edited streams
  pub takes : (streams : List (Option (List ℕ))) (file other : List ℕ) → Reads file limit old streams
      → TakesNew old edits p file other → Reads other limit p.image (edited edits streams)
