-- What is planned for a commit: on which images it may be built.
use Rattle.std.specs.Prelude.{◌≡◌, ◌<◌, ◌⊎◌, ◌==◌, ℕ, Bool, true, false, List, ◌∷◌, length}
use Rattle.std.specs.List.{list_any}
use Rattle.table_model.specs.Bounds.{Bounds}
use Rattle.msf_blocks.specs.Blocks.{IsReserved}
use Rattle.msf_blocks.specs.Edit.{StreamEdit}
use Rattle.free_page_maps.specs.FreeBlocks.{is_free}
use Rattle.stream_directory.specs.Directory.{absent_size}
use Rattle.msf_image.specs.declared.image.Image.{Image}
use Rattle.msf_image.specs.Reads as reads
use Rattle.table_model.specs.Tables.{Tables}
use Rattle.type_store.specs.Commit.{commit_edits, extent_of}
use Rattle.type_store.specs.Committed.{GoesOn}
use Rattle.type_store.specs.Shape.{HaveRoom, Shape, directory_bytes, shape_of, sizes_in, written_sizes}
use Rattle.type_store.specs.Written.{AreWithin, CanKeep, KeptNumbers}

-- the image of a file as it was opened or created
pub record IsOpenedImage (shape : Shape) (image : Image) : Type 0 where
  pub sizes : sizes_in image.directory ≡ shape.sizes
  pub blocks : image.head.blocks ≡ shape.blocks

-- An image that is written for tables: its streams and its directory are as large as they must be, and each unreserved block
-- is used or free.
pub record IsWrittenImage (shape : Shape) (tables : Tables) (image : Image) : Type 0 where
  pub sizes : sizes_in image.directory ≡ written_sizes shape tables
  pub dir_bytes : image.head.dir_bytes ≡ directory_bytes shape tables
  pub whole : reads.IsWhole image
  pub complete : (b : ℕ) → b < image.head.blocks → ¬ IsReserved image.head.block b
      → (is_free image.free b ≡ true) ⊎ (list_any (λ x. x == b) (reads.used_blocks (image.head.map_addr ∷ whole.blocks) image.directory) ≡ true)

-- an image on which a commit may be built, by whether it is fresh: the opened one, with the tables that it held first, or
-- one that is written for its tables
abbrev pub IsBaseImage : Bool → Shape → Tables → Tables → Image → Type 0
IsBaseImage true shape first tables image = IsOpenedImage shape image × (tables ≡ first)
IsBaseImage false shape first tables image = IsWrittenImage shape tables image

-- A commit to a file: what the file keeps, its shape and the tables that it held first; the tables of the image on which the
-- commit is built, and whether that is fresh; and what is committed.
pub record Commit : Type 0 where
  pub limits : Bounds
  pub kept : KeptNumbers
  pub info : List ℕ
  pub shape : Shape
  pub first : Tables
  pub fresh : Bool
  pub old : Tables
  pub age : ℕ
  pub tables : Tables

abbrev pub edits_of : Commit → ℕ → List StreamEdit
edits_of c size = commit_edits size c.kept (extent_of c.fresh c.old) c.info c.age c.tables

-- a commit that may be built on an image
pub record MayCommit (c : Commit) (image : Image) : Type 0 where
  pub can : CanKeep c.kept c.info
  pub short : length c.info < absent_size
  pub whole : reads.IsWhole image
  pub shape_is : c.shape ≡ shape_of image.head.block c.shape.blocks c.shape.sizes c.kept
  pub room : HaveRoom c.kept c.info c.first c.shape.sizes
  pub base : IsBaseImage c.fresh c.shape c.first c.old image
  pub on : GoesOn c.old c.tables
  pub within : AreWithin c.limits c.tables
