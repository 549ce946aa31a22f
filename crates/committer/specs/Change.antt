-- What a file holds while a plan is written into it.
use Rattle.std.specs.Prelude.{◌≡◌, ◌⊎◌, ℕ, List, Option}
use Rattle.srv_edge.specs.Disk.{with_head}
use Rattle.msf_blocks.specs.Superblock.{superblock_text}
use Rattle.msf_image.specs.declared.image.Image.{Image}
use Rattle.msf_image.specs.Relation.{Reads, contents_in}

-- the limit of blocks, the image that counts with the contents of its streams, and the contents that are to come
pub record Change : Type 0 where
  pub limit : ℕ
  pub image : Image
  pub contents : List (Option (List ℕ))
  pub next : List (Option (List ℕ))

-- the file reads as it did before the change
abbrev pub IsOld : Change → List ℕ → Type 0
IsOld change file = Reads file change.limit change.image change.contents

-- It reads as the new image with the contents to come. The blocks of the old image's streams hold what they held.
abbrev pub IsNew : Change → Image → List ℕ → Type 0
IsNew change new file = Reads file change.limit new change.next × (contents_in file change.image ≡ change.contents)

-- it reads as before, and with the new superblock as the new image
abbrev pub IsReady : Change → Image → List ℕ → Type 0
IsReady change new file = IsOld change file × IsNew change new (with_head file (superblock_text new.head))

-- it reads as before, or as the new image
abbrev pub IsEither : Change → Image → List ℕ → Type 0
IsEither change new file = IsOld change file ⊎ IsNew change new file
