-- What a store keeps of its device.
use Rattle.std.specs.Prelude.{◌≡◌, ◌≤◌, ◌⊎◌, ℕ, ◌^◌, List, Option, Some, None, Result, Ok, Err}
use Rattle.srv_edge.specs.Disk.{with_head}
use Rattle.msf_blocks.specs.Superblock.{superblock_text}
use Rattle.msf_image.specs.declared.fault.OpenFault.{OpenFault}
use Rattle.msf_image.specs.declared.image.Image.{Image}
use Rattle.msf_image.specs.Reads.{IsWhole}
use Rattle.msf_image.specs.Relation.{Reads, contents_in}
use Rattle.committer.specs.Change.{Change, IsNew, IsReady}

-- What a file reads as: one image, or in doubt one of two, of which the second is pending.
pub data File : Type 0 where
  settled : Image → File
  doubt : Image → Image → File

-- A device, how many blocks its file may have, and what the file reads as.
pub record Stored (D : Type 0) : Type 0 where
  pub device : D
  pub limit : ℕ
  pub file : File

-- the newest image that was begun, on which the next commit builds
abbrev pub newest : File → Image
newest (settled image) = image
newest (doubt base pending) = pending

-- the image that was there before the newest, in doubt
abbrev pub base_of : File → Image
base_of (settled image) = image
base_of (doubt base pending) = base

abbrev pub IsSettledFile : File → Type 0
IsSettledFile file = file ≡ settled (newest file)

-- the newest image, and the one before it in doubt
abbrev pub file_of : Option Image → Image → File
file_of None image = settled image
file_of (Some base) image = doubt base image

-- A file reads as one of these images, whose streams hold what their blocks hold in the file that a read gives.
abbrev pub Shows : ℕ → File → List ℕ → List ℕ → Type 0
Shows limit (settled image) seen file = Reads file limit image (contents_in seen image)
Shows limit (doubt base pending) seen file =
    Reads file limit base (contents_in seen base) ⊎ Reads file limit pending (contents_in seen pending)

-- the file once it is settled on its newest image
abbrev pub settled_file : File → List ℕ → List ℕ
settled_file (settled image) seen = seen
settled_file (doubt base pending) seen = with_head seen (superblock_text pending.head)

-- two images of one block size, with the same number without a known meaning
pub record IsAlike (old new : Image) : Type 0 where
  pub block : new.head.block ≡ old.head.block
  pub unknown : new.head.unknown ≡ old.head.unknown

abbrev pub AreAlike : File → Type 0
AreAlike (settled image) = IsAlike image image
AreAlike (doubt base pending) = IsAlike base pending

-- from an old image to a new one, where a read gives this file
abbrev pub change_in : ℕ → Image → Image → List ℕ → Change
change_in limit old new seen =
    record { limit = limit; image = old; contents = contents_in seen old; next = contents_in seen new }

-- a file of which each image reads as this one
pub record IsSettled (limit : ℕ) (image : Image) (seen : List ℕ) (images : List ℕ → Type 0) : Type 0 where
  pub whole : IsWhole image
  pub limited : image.head.blocks ≤ limit
  pub reads : (c : List ℕ) → images c → Reads c limit image (contents_in seen image)

-- a file of which each image reads as the base, and with the pending superblock as the pending image; or as that already
pub record IsDoubt (limit : ℕ) (base pending : Image) (seen : List ℕ) (images : List ℕ → Type 0) : Type 0 where
  pub whole : IsWhole pending
  pub limited : pending.head.blocks ≤ limit
  pub base_whole : IsWhole base
  pub alike : IsAlike base pending
  pub reads : (c : List ℕ) → images c
      → IsReady (change_in limit base pending seen) pending c ⊎ IsNew (change_in limit base pending seen) pending c

abbrev pub IsIn : ℕ → File → List ℕ → (List ℕ → Type 0) → Type 0
IsIn limit (settled image) seen images = IsSettled limit image seen images
IsIn limit (doubt base pending) seen images = IsDoubt limit base pending seen images

-- what a store's type keeps
pub record IsStored {D : Type 0} (seen : D → List ℕ) (images : D → List ℕ → Type 0) (s : Stored D) : Type 0 where
  pub most : s.limit ≤ 2 ^ 20
  pub holds : IsIn s.limit s.file (seen s.device) (images s.device)

-- the device, which a fault hands back
abbrev pub device_of : {D : Type 0} → Result (Stored D) (OpenFault × D) → D
device_of (Ok s) = s.device
device_of (Err refused) = refused.1
