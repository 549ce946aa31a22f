-- Why a commit was refused.
use Rattle.std.specs.Prelude.{◌≡◌, ◌<◌, ◌*◌, ◌/◌, ℕ, List, Result, Ok, Err}
use Rattle.msf_blocks.specs.Edit.{StreamEdit}
use Rattle.msf_image.specs.declared.image.Image.{Image}
use Rattle.cow_streams.specs.declared.fault.PlanFault.{PlanFault}
use Rattle.cow_streams.specs.declared.fault.PlanFault.TheVariants as plan
use Rattle.cow_streams.specs.declared.fault.Which.{Which}
use Rattle.cow_streams.specs.declared.fault.Which.TheVariants as which
use Rattle.cow_streams.specs.Planned.{FitsDirectory, new_blocks, new_dir_bytes}
use Rattle.committer.specs.declared.fault.TheConstants.{BLOCKS, DIRECTORY}
use Rattle.committer.specs.declared.fault.CommitFault.{CommitFault}
use Rattle.committer.specs.declared.fault.CommitFault.TheVariants as commit

-- the number of a limit
abbrev pub limit_of : Which → ℕ
limit_of which.Directory = DIRECTORY
limit_of which.Blocks = BLOCKS

-- why a plan was refused, as a commit's refusal
abbrev pub fault_of_plan : PlanFault → CommitFault
fault_of_plan (plan.Full limit needed) = commit.Full (limit_of limit) needed
fault_of_plan plan.OutOfMemory = commit.OutOfMemory

-- a commit that came to its device calls
abbrev pub IsBegun : {A : Type 0} → Result A CommitFault → Type 0
IsBegun (Ok done) = Unit {0}
IsBegun (Err commit.DiskFault) = Unit {0}
IsBegun (Err (commit.Full limit needed)) = ⊥
IsBegun (Err commit.OutOfMemory) = ⊥

-- The edited directory would need so many bytes, which is more than a block can list.
pub record PassesDirectory (old : Image) (edits : List StreamEdit) (needed : ℕ) : Type 0 where
  pub is : needed ≡ new_dir_bytes old edits
  pub passes : old.head.block * old.head.block / 4 < needed

-- The directory fits, and the edited file would need so many blocks, which is more than the limit.
pub record PassesBlocks (limit : ℕ) (old : Image) (edits : List StreamEdit) (needed : ℕ) : Type 0 where
  pub directory : FitsDirectory old edits
  pub is : needed ≡ new_blocks old edits
  pub passes : limit < needed
