-- The tables of a server with the file that they came from and go to.
use Rattle.std.specs.Prelude.{◌≡◌, ℕ, List, Option, Some}
use Rattle.table_model.specs.Bounds.{Bounds}
use Rattle.table_model.specs.File.{newest_cut}
use Rattle.table_model.specs.Tables.{Tables}
use Rattle.type_store.specs.Committed.{GoesOn}
use Rattle.type_store.specs.Files.{FileView, HasBounds}
use Rattle.type_store.specs.Opened.{IsOpened}

pub record BookView (D : Type 0) : Type 0 where
  pub tables : Tables
  pub file : Option (FileView D)
  pub acked : ℕ

-- Tables with which a file may go on: they extend those of the newest commit that has begun to come to it, and have its bounds.
pub record GoOnIn {D : Type 0} (tables : Tables) (file : FileView D) : Type 0 where
  pub on : GoesOn (newest_cut file.file).tables tables
  pub bounds : HasBounds file.bounds tables

-- where the file is there, it may go on with these tables
abbrev pub IsKept : {D : Type 0} → Tables → Option (FileView D) → Type 0
IsKept {D} tables file = (v : FileView D) → file ≡ Some v → GoOnIn tables v

-- a file that was just opened or created, with these tables
abbrev pub IsJustOpened : {D : Type 0} → FileView D → Tables → Type 0
IsJustOpened v tables = (bounds : Bounds) × (seen : List ℕ) × IsOpened bounds seen v tables
