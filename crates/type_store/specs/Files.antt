-- A file as it stands between the calls of its committer.
use Rattle.std.specs.Prelude.{◌≡◌, ◌≤◌, ◌<◌, ◌⊎◌, ◌+◌, ◌-◌, ◌*◌, ◌/◌, ◌^◌, ℕ, Bool, false, IsTrue, List, length, Option, None, Some, Ok}
use Rattle.stream_directory.specs.Directory.{absent_size}
use Rattle.msf_image.specs.declared.image.Image.{Image}
use Rattle.msf_image.specs.Reads.{read_file}
use Rattle.cow_streams.specs.Planned.{Planned}
use Rattle.type_store.specs.declared.commit.TheConstants.{AGE}
use Rattle.committer.specs.declared.fault.TheConstants.{BLOCKS, DIRECTORY}
use Rattle.committer.specs.declared.fault.CommitFault.{CommitFault}
use Rattle.committer.specs.declared.fault.CommitFault.TheVariants as fault
use Rattle.committer.specs.Left.{file_after}
use Rattle.committer.specs.Stored as store
use Rattle.committer.specs.Writing.{IsPlanned}
use Rattle.table_model.specs.Bounds.{Bounds}
use Rattle.table_model.specs.Cut.{Cut}
use Rattle.table_model.specs.Extends.{Extends}
use Rattle.table_model.specs.File.{File, MayLeave, doubt, newest_cut, resolution, settled, sure_cut}
use Rattle.table_model.specs.Tables.{Tables}
use Rattle.type_store.specs.Commits.{Holds, HoldsOne, contents_of, cut_told, held_from, held_in}
use Rattle.type_store.specs.Committed.{GoesOn, HoldsTables, IsBase, IsCommitted}
use Rattle.type_store.specs.Planning.{IsBaseImage, IsWrittenImage}
use Rattle.type_store.specs.Holds.{Held, content_at}
use Rattle.type_store.specs.Shape.{HaveRoom, MayNeed, Shape, bytes_for, directory_bytes, shape_of}
use Rattle.type_store.specs.Written.{AreWithin, CanKeep, KeptNumbers, numbers_of}

-- a commit that is ready to be written: its cut, and what is written for it
pub record Pending : Type 0 where
  pub cut : Cut
  pub plan : Planned

-- a commit that has begun, and whether its image is as it was opened or created
pub record Begun : Type 0 where
  pub cut : Cut
  pub fresh : Bool

-- A file: its device; what that gave when it was opened, or once it was created; its bounds; the numbers on which the size of
-- its directory rests; the image on which the next commit builds, and whether it is as it was opened or created; the commits
-- that a crash may leave; the last number that a commit took; and the commit that is ready to be written.
pub record FileView (D : Type 0) : Type 0 where
  pub device : D
  pub opened : List ℕ
  pub bounds : Bounds
  pub shape : Shape
  pub image : Image
  pub fresh : Bool
  pub file : File
  pub last : ℕ
  pub ready : Option Pending

-- the cut of these tables under this number
abbrev pub cut_of : ℕ → Tables → Cut
cut_of number tables = record { number = number; tables = tables }

-- ---- what the type of a file keeps

-- the image holds this commit, in a file whose streams have these contents
abbrev pub TellsCut : Bounds → List ℕ → Image → Cut → Type 0
TellsCut bounds file image cut = cut_told bounds (held_from bounds file image) ≡ Ok cut

-- the images of a file hold its cuts
abbrev pub TellsCuts : Bounds → List ℕ → store.File → File → Type 0
TellsCuts bounds seen (store.settled image) (settled cut) = TellsCut bounds seen image cut
TellsCuts bounds seen (store.doubt base pending) (doubt older newer) = TellsCut bounds seen base older × TellsCut bounds seen pending newer
TellsCuts bounds seen _ _ = ⊥

-- a file is settled where its cuts are
abbrev pub HasStates : store.File → File → Type 0
HasStates (store.settled image) (settled cut) = Unit {0}
HasStates (store.doubt base pending) (doubt older newer) = Unit {0}
HasStates _ _ = ⊥

-- what a file was when it was opened, or created
pub record Origin : Type 0 where
  pub bounds : Bounds
  pub kept : KeptNumbers
  pub info : List ℕ
  pub first : Cut
  pub opened : List ℕ
  pub image : Image
  pub shape : Shape

-- It held its first commit, with numbers that can be kept.
pub record IsOrigin (tells : Bool) (o : Origin) : Type 0 where
  pub can : CanKeep o.kept o.info
  pub short : length o.info < absent_size
  pub shape : o.shape ≡ shape_of o.image.head.block o.shape.blocks o.shape.sizes o.kept
  pub room : HaveRoom o.kept o.info o.first.tables o.shape.sizes
  pub directory : bytes_for o.shape.block o.shape.sizes ≤ 2 ^ 28
  pub read : IsTrue tells → read_file o.opened o.bounds.blocks ≡ Ok o.image
  pub holds : IsTrue tells → HoldsTables o.bounds o.kept o.info o.first.number o.first.tables (contents_of o.opened o.image)

-- An image on which the next commit builds, and its cut, where a read gives this file. It is fresh while it is as it was
-- opened or created.
pub record IsNewest (tells : Bool) (o : Origin) (fresh : Bool) (image : Image) (seen : List ℕ) (cut : Cut) : Type 0 where
  pub block : image.head.block ≡ o.image.head.block
  pub unknown : image.head.unknown ≡ o.image.head.unknown
  pub within : AreWithin o.bounds cut.tables
  pub base_image : IsBaseImage fresh o.shape o.first.tables cut.tables image
  pub base : IsTrue tells → IsBase fresh o.kept o.info cut.number o.first.tables (contents_of o.opened o.image) cut.tables (contents_of seen image)

-- A commit that may be written on this image: a file into which its plan is written is written for its cut.
pub record IsReady (tells : Bool) (o : Origin) (file : store.File) (seen : List ℕ) (newest : Cut) (last : ℕ) (p : Pending) : Type 0 where
  pub planned : IsPlanned o.bounds.blocks (store.newest file) p.plan
  pub number : p.cut.number ≡ last
  pub on : GoesOn newest.tables p.cut.tables
  pub within : AreWithin o.bounds p.cut.tables
  pub block : p.plan.image.head.block ≡ o.image.head.block
  pub unknown : p.plan.image.head.unknown ≡ o.image.head.unknown
  pub other_map : p.plan.image.head.map ≡ 3 - (store.newest file).head.map
  pub image : IsWrittenImage o.shape p.cut.tables p.plan.image
  pub committed : IsTrue tells → IsCommitted o.kept o.info p.cut.number p.cut.tables (contents_of o.opened o.image) (contents_of (file_after file seen p.plan) p.plan.image)

abbrev pub IsReadyIf : Bool → Origin → store.File → List ℕ → Cut → ℕ → Option Pending → Type 0
IsReadyIf tells o file seen newest last None = Unit {0}
IsReadyIf tells o file seen newest last (Some p) = IsReady tells o file seen newest last p

-- What a file's type keeps, of its store and of what it was.
pub record IsFile {D : Type 0} (tells : Bool) (seen : D → List ℕ) (o : Origin) (s : store.Stored D) (fresh : Bool) (file : File) (last : ℕ) (ready : Option Pending) : Type 0 where
  pub origin : IsOrigin tells o
  pub limit : s.limit ≡ o.bounds.blocks
  pub states : HasStates s.file file
  pub cuts : IsTrue tells → TellsCuts o.bounds (seen s.device) s.file file
  pub newest : IsNewest tells o fresh (store.newest s.file) (seen s.device) (newest_cut file)
  pub begun : (newest_cut file).number ≤ last
  pub small : last < 2 ^ 32
  pub prepared : IsReadyIf tells o s.file (seen s.device) (newest_cut file) last ready

-- ---- what crashes leave

-- Each image of the device holds a commit that the file may leave.
abbrev pub IsShown : {D : Type 0} → (D → List ℕ → Type 0) → FileView D → Type 0
IsShown {D} may_leave v = (image : List ℕ) → may_leave v.device image → HoldsOne v.bounds (MayLeave v.file) image

-- while this cut is written a crash leaves what it might have left, or this
abbrev pub MayShow : File → Cut → Cut → Type 0
MayShow file new cut = MayLeave file cut ⊎ (cut ≡ new)

-- The commits that a crash may leave behind a commit that failed: while the doubt was settled, what it was; while blocks were
-- written, the newest alone; from the superblock on, the newest or the new one.
abbrev pub FailsTo : File → Cut → File → Type 0
FailsTo old new file = (file ≡ old) ⊎ ((file ≡ resolution old) ⊎ (file ≡ doubt (newest_cut old) new))

-- The next commit builds on what it did, or on the image that was planned.
abbrev pub KeepsBase : {D : Type 0} → FileView D → FileView D → Type 0
KeepsBase v w = (w.image ≡ v.image) × (w.fresh ≡ v.fresh)

abbrev pub TakesBase : {D : Type 0} → Pending → FileView D → Type 0
TakesBase p w = (w.image ≡ p.plan.image) × (w.fresh ≡ false)

-- The same behind a commit that failed: from the superblock on it is the image that was planned.
abbrev pub FailsOn : {D : Type 0} → FileView D → Pending → FileView D → Type 0
FailsOn v p w =
    (((w.file ≡ v.file) ⊎ (w.file ≡ resolution v.file)) × KeepsBase v w) ⊎ ((w.file ≡ doubt (newest_cut v.file) p.cut) × TakesBase p w)

-- ---- a commit and what stays behind it

-- the tables have the limits of the file
pub record HasBounds (bounds : Bounds) (tables : Tables) : Type 0 where
  pub type_records : tables.types.max_records ≡ bounds.records
  pub type_bytes : tables.types.max_bytes ≡ bounds.bytes
  pub item_records : tables.items.max_records ≡ bounds.records
  pub item_bytes : tables.items.max_bytes ≡ bounds.bytes
  pub names : tables.names.max_bytes ≡ bounds.name_bytes

-- the file with a commit that is ready
abbrev pub prepared : {D : Type 0} → Pending → FileView D → FileView D
prepared p v = record v { last = v.last + 1; ready = Some p }

-- The file behind a write: it is what it was, but for its device, its image and the commits that a crash may leave.
pub record Stays {D : Type 0} (v w : FileView D) : Type 0 where
  pub opened : w.opened ≡ v.opened
  pub bounds : w.bounds ≡ v.bounds
  pub shape : w.shape ≡ v.shape
  pub last : w.last ≡ v.last
  pub none_ready : w.ready ≡ None

-- The directory of a file that is written for tables keeps its limit.
abbrev pub FitsDirectory : Shape → Tables → Type 0
FitsDirectory shape tables = directory_bytes shape tables ≤ shape.block * shape.block / 4

-- Why a commit of tables has no place, under each of the limits, and the number that would be needed. The last number is looked
-- at first, then the directory, then the blocks.
pub data IsFull (most_blocks : ℕ) (shape : Shape) (last : ℕ) (tables : Tables) : ℕ → ℕ → Type 0 where
  by_age : last ≡ 2 ^ 32 - 1 → IsFull most_blocks shape last tables AGE 0
  by_directory : last < 2 ^ 32 - 1 → ¬ FitsDirectory shape tables → IsFull most_blocks shape last tables DIRECTORY (directory_bytes shape tables)
  by_blocks : (needed : ℕ) → last < 2 ^ 32 - 1 → FitsDirectory shape tables → most_blocks < needed → MayNeed shape tables needed → IsFull most_blocks shape last tables BLOCKS needed

-- a commit of tables passes no limit that can be told beforehand
pub record MayBegin (shape : Shape) (last : ℕ) (tables : Tables) : Type 0 where
  pub number : last < 2 ^ 32 - 1
  pub directory : FitsDirectory shape tables

-- why a commit is not prepared
abbrev pub IsRefused : {D : Type 0} → FileView D → Tables → CommitFault → Type 0
IsRefused v tables (fault.Full which needed) = IsFull v.bounds.blocks v.shape v.last tables which needed
IsRefused v tables fault.DiskFault = ⊥
IsRefused v tables fault.OutOfMemory = v.last < 2 ^ 32 - 1

-- The file is written for this cut over an old one: it holds the cut, and has the old block size, number without a known
-- meaning and streams, but for those that commits write.
pub record IsWrittenOver (bounds : Bounds) (old new : List ℕ) (cut : Cut) : Type 0 where
  pub kept : KeptNumbers
  pub info : List ℕ
  pub old_image : Image
  pub image : Image
  pub was_read : read_file old bounds.blocks ≡ Ok old_image
  pub is_read : read_file new bounds.blocks ≡ Ok image
  pub block : image.head.block ≡ old_image.head.block
  pub unknown : image.head.unknown ≡ old_image.head.unknown
  pub held : Held
  pub was_held : held_in bounds old ≡ Ok held
  pub numbers : numbers_of held ≡ kept
  pub info_stream : content_at (contents_of old old_image) 1 ≡ Some info
  pub committed : IsCommitted kept info cut.number cut.tables (contents_of old old_image) (contents_of new image)
  pub holds : Holds bounds new cut
