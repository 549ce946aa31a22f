-- What a commit leaves of a file, and what a crash shows while it goes on.
use Rattle.std.specs.Prelude.{◌≡◌, ◌⊎◌, ℕ, Bool, IsTrue, List}
use Rattle.msf_image.specs.declared.image.Image.{Image}
use Rattle.msf_image.specs.Relation.{Reads, contents_in}
use Rattle.cow_streams.specs.Planned.{Planned}
use Rattle.committer.specs.Stored.{File, Shows, base_of, doubt, newest, settled, settled_file}
use Rattle.committer.specs.Writing.{file_with}

-- the file once it is settled on its newest image, and a plan is written into it
abbrev pub file_after : File → List ℕ → Planned → List ℕ
file_after file seen plan = file_with (settled_file file seen) plan

-- What a crash shows while a plan is written: what the file showed before, or the new image with its streams.
abbrev pub ShowsEither : ℕ → File → List ℕ → Planned → List ℕ → Type 0
ShowsEither limit file seen plan c =
    Shows limit file seen c ⊎ Reads c limit plan.image (contents_in (file_after file seen plan) plan.image)

-- the streams of an image hold what they held, where the device tells it
abbrev pub Same : Bool → Image → List ℕ → List ℕ → Type 0
Same tells image before after = IsTrue tells → contents_in after image ≡ contents_in before image

-- The file is as it was.
pub record IsUnchanged (tells : Bool) (old : File) (before : List ℕ) (file : File) (after : List ℕ) : Type 0 where
  pub is : file ≡ old
  pub contents : Same tells (newest old) before after
  pub base : Same tells (base_of old) before after

-- It is settled on the image that was the newest.
pub record IsOnNewest (tells : Bool) (old : File) (before : List ℕ) (file : File) (after : List ℕ) : Type 0 where
  pub is : file ≡ settled (newest old)
  pub contents : Same tells (newest old) before after

-- It is in doubt: the image that was the newest counts, or the planned one, which is pending.
pub record IsInDoubt (tells : Bool) (old : File) (before : List ℕ) (plan : Planned) (file : File) (after : List ℕ) : Type 0 where
  pub is : file ≡ doubt (newest old) plan.image
  pub contents : Same tells (newest old) before after
  pub next : IsTrue tells → contents_in after plan.image ≡ contents_in (file_after old before plan) plan.image

-- what a write of a plan that failed leaves of a file that was settled
abbrev pub IsPut : Bool → File → List ℕ → Planned → File → List ℕ → Type 0
IsPut tells old before plan file after =
    IsOnNewest tells old before file after ⊎ IsInDoubt tells old before plan file after

-- and of any file, which is settled first
abbrev pub IsLeft : Bool → File → List ℕ → Planned → File → List ℕ → Type 0
IsLeft tells old before plan file after =
    IsUnchanged tells old before file after ⊎ IsPut tells old before plan file after
