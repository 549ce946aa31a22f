-- What an opening answers.
use Rattle.std.specs.Prelude.{◌≡◌, ◌<◌, ◌^◌, ℕ, true, List, None, Result, Ok, Err, IfSome}
use Rattle.msf_image.specs.declared.fault.OpenFault.{OpenFault}
use Rattle.msf_image.specs.declared.image.Image.{Image}
use Rattle.msf_image.specs.Faults.{damage_in}
use Rattle.msf_image.specs.Reads.{read_file}
use Rattle.table_model.specs.Bounds.{Bounds}
use Rattle.table_model.specs.File.{newest_cut, settled}
use Rattle.table_model.specs.Tables.{Tables}
use Rattle.type_store.specs.declared.tables.Tables as program
use Rattle.type_store.specs.Commits.{Holds, held_in}
use Rattle.type_store.specs.Files.{FileView, cut_of}
use Rattle.type_store.specs.Holds.{Held}
use Rattle.type_store.specs.Shape.{Shape, shape_of, sizes_in}
use Rattle.type_store.specs.Written.{AreWithin, KeptNumbers, numbers_of}

-- the device in what an opening answers
abbrev pub device_in : {D : Type 0} → Result (FileView D × program.Tables) (OpenFault × D) → D
device_in (Ok opened) = opened.0.device
device_in (Err refused) = refused.1

-- What is answered is what the file tells: its image and the commit that it holds, or its first damage.
abbrev pub TellsOpened : {D : Type 0} → Bounds → List ℕ → Result (FileView D × program.Tables) (OpenFault × D) → Type 0
TellsOpened bounds seen (Ok opened) = (read_file seen bounds.blocks ≡ Ok opened.0.image) × Holds bounds seen (newest_cut opened.0.file)
TellsOpened bounds seen (Err refused) = IfSome (damage_in refused.0) (λ damage. held_in bounds seen ≡ Err damage)

-- a file just opened or created, with these tables
pub record IsOpened {D : Type 0} (bounds : Bounds) (seen : List ℕ) (v : FileView D) (tables : Tables) : Type 0 where
  pub small : v.last < 2 ^ 32
  pub file : v.file ≡ settled (cut_of v.last tables)
  pub none_ready : v.ready ≡ None
  pub fresh : v.fresh ≡ true
  pub opened : v.opened ≡ seen
  pub bounds_are : v.bounds ≡ bounds
  pub within : AreWithin bounds tables
  pub kept : KeptNumbers
  pub shape : v.shape ≡ shape_of v.image.head.block v.image.head.blocks (sizes_in v.image.directory) kept

-- the shape of the file that these bytes are, by its image and by what it holds
pub record HasShape (bounds : Bounds) (seen : List ℕ) (shape : Shape) : Type 0 where
  pub image : Image
  pub read : read_file seen bounds.blocks ≡ Ok image
  pub held : Held
  pub holds : held_in bounds seen ≡ Ok held
  pub is : shape ≡ shape_of image.head.block image.head.blocks (sizes_in image.directory) (numbers_of held)
