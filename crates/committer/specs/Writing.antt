-- What a plan makes of a file, and how a device takes its writes.
use Rattle.std.specs.Prelude.{◌≡◌, ◌≤◌, ◌<◌, ◌⊎◌, ℕ, ◌^◌, List, length, All}
use Rattle.srv_edge.specs.Disk.{Torn, with_head}
use Rattle.msf_blocks.specs.Blocks.{block_offset}
use Rattle.msf_blocks.specs.Edit.{StreamEdit}
use Rattle.msf_blocks.specs.Superblock.{superblock_text}
use Rattle.msf_image.specs.declared.image.Image.{Image}
use Rattle.msf_image.specs.Reads.{IsWhole}
use Rattle.msf_image.specs.Relation.{contents_in}
use Rattle.cow_streams.specs.Plan.{IsPlan}
use Rattle.cow_streams.specs.Planned.{Planned, Write, with_writes}
use Rattle.committer.specs.Change.{Change, IsNew, IsOld, IsReady}

-- what was planned for some edits of an image
abbrev pub IsPlanned : ℕ → Image → Planned → Type 0
IsPlanned limit old plan = (edits : List StreamEdit) × IsPlan limit old edits plan

-- a file once a plan is written into it
abbrev pub file_with : List ℕ → Planned → List ℕ
file_with file plan =
    with_head (with_writes plan.image.head.block file plan.writes) (superblock_text plan.image.head)

-- writes of whole blocks that a device takes
abbrev pub ArePlaced : ℕ → List Write → Type 0
ArePlaced block_size writes = All (λ w. (1 ≤ w.block) × (w.block < 2 ^ 20) × (length w.bytes ≡ block_size)) writes

-- writes of which none, whole or in part, changes what a file reads as
abbrev pub AreSparing : Change → ℕ → List Write → Type 0
AreSparing change block_size writes =
    All (λ w. (file other : List ℕ) → IsOld change file
    → Torn (block_offset block_size w.block) (length w.bytes) file other → IsOld change other) writes

-- What blocks are written over: each image reads as before the change, and no write changes that.
pub record CanWrite (change : Change) (block_size : ℕ) (writes : List Write) (images : List ℕ → Type 0) : Type 0 where
  pub sparing : AreSparing change block_size writes
  pub now : (c : List ℕ) → images c → IsOld change c

-- What a superblock is written over: each image is ready for it, or has it.
pub record CanTurn (change : Change) (new : Image) (images : List ℕ → Type 0) : Type 0 where
  pub old_whole : IsWhole change.image
  pub now : (c : List ℕ) → images c → IsReady change new c ⊎ IsNew change new c

-- a plan that a device takes
pub record IsWritable (plan : Planned) : Type 0 where
  pub whole : IsWhole plan.image
  pub placed : ArePlaced plan.image.head.block plan.writes

-- What a plan is written over, where a read gives this file: each image reads as before the change. The contents to come are what the
-- blocks of the new streams hold once the plan is written.
pub record CanPut (change : Change) (plan : Planned) (seen : List ℕ) (images : List ℕ → Type 0) : Type 0 where
  pub old_whole : IsWhole change.image
  pub planned : IsPlanned change.limit change.image plan
  pub next : (c : List ℕ) → images c → change.next ≡ contents_in (file_with seen plan) plan.image
  pub now : (c : List ℕ) → images c → IsOld change c
