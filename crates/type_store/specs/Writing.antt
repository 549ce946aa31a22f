-- What a write of a commit leaves of a file.
use Rattle.std.specs.Prelude.{◌≡◌, ℕ, Bool, true, false, IsTrue, List, Result, Ok, Err}
use Rattle.cow_streams.specs.Planned.{Planned}
use Rattle.committer.specs.Left.{IsInDoubt, IsOnNewest, IsUnchanged, file_after}
use Rattle.committer.specs.Stored as store
use Rattle.table_model.specs.Cut.{Cut}
use Rattle.table_model.specs.File.{File, doubt, newest_cut, resolution, settled}
use Rattle.type_store.specs.declared.writing.Left.{Left}
use Rattle.type_store.specs.declared.writing.Left.TheVariants as left

-- It is settled on the planned image, and holds what the plan makes of it.
pub record IsWritten (tells : Bool) (old : store.File) (before : List ℕ) (plan : Planned) (file : store.File) (after : List ℕ) : Type 0 where
  pub is : file ≡ store.settled plan.image
  pub contents : IsTrue tells → after ≡ file_after old before plan

-- by what a write answers
abbrev pub Leaves : {A : Type 0} → Bool → store.File → List ℕ → Planned → store.File → List ℕ → Result A Left → Type 0
Leaves tells old before plan file after (Ok done) = IsWritten tells old before plan file after
Leaves tells old before plan file after (Err left.Unchanged) = IsUnchanged tells old before file after
Leaves tells old before plan file after (Err left.Settled) = IsOnNewest tells old before file after
Leaves tells old before plan file after (Err left.Doubt) = IsInDoubt tells old before plan file after

-- what a store shows of it, by whether its newest image is another than before
abbrev pub IsSeenAs : store.File → Bool → Left → Type 0
IsSeenAs file begun left.Settled = store.IsSettledFile file
IsSeenAs file begun left.Unchanged = (¬ store.IsSettledFile file) × (begun ≡ false)
IsSeenAs file begun left.Doubt = (¬ store.IsSettledFile file) × (begun ≡ true)

-- the commits that a crash may leave then
abbrev pub cuts_left : {A : Type 0} → File → Cut → Result A Left → File
cuts_left file new (Ok done) = settled new
cuts_left file new (Err left.Unchanged) = file
cuts_left file new (Err left.Settled) = resolution file
cuts_left file new (Err left.Doubt) = doubt (newest_cut file) new

-- whether the newest image is then as it was opened or created
abbrev pub fresh_left : {A : Type 0} → Bool → Result A Left → Bool
fresh_left fresh (Ok done) = false
fresh_left fresh (Err left.Unchanged) = fresh
fresh_left fresh (Err left.Settled) = fresh
fresh_left fresh (Err left.Doubt) = false
