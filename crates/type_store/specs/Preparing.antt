-- How a commit of tables is planned.
use Rattle.std.specs.Prelude.{◌≡◌, ◌<◌, ℕ, Bool}
use Rattle.cow_streams.specs.declared.fault.PlanFault.{PlanFault}
use Rattle.cow_streams.specs.declared.fault.PlanFault.TheVariants as plan
use Rattle.cow_streams.specs.declared.fault.Which.TheVariants as which
use Rattle.names_table.specs.Names.{IsNamesTable}
use Rattle.record_table.specs.Table.{IsKept}
use Rattle.table_model.specs.Cut.{Cut}
use Rattle.table_model.specs.Tables.{Tables}
use Rattle.type_store.specs.Files.{FitsDirectory, Origin}
use Rattle.type_store.specs.Planning.{Commit}
use Rattle.type_store.specs.Shape.{MayNeed, Shape, directory_bytes}

-- the commit of a cut to a file, on the image of these tables
abbrev pub commit_on : Origin → Bool → Tables → Cut → Commit
commit_on o fresh old cut = record {
  limits = o.bounds;
  kept = o.kept;
  info = o.info;
  shape = o.shape;
  first = o.first.tables;
  fresh = fresh;
  old = old;
  age = cut.number;
  tables = cut.tables;
}

-- tables as they are kept
pub record AreKept (tables : Tables) : Type 0 where
  pub types : IsKept tables.types
  pub items : IsKept tables.items
  pub names : IsNamesTable tables.names

-- why a plan of tables has no place
abbrev pub HasNoPlace : ℕ → Shape → Tables → PlanFault → Type 0
HasNoPlace limit shape tables (plan.Full which.Directory needed) = (needed ≡ directory_bytes shape tables) × (¬ FitsDirectory shape tables)
HasNoPlace limit shape tables (plan.Full which.Blocks needed) = FitsDirectory shape tables × (limit < needed) × MayNeed shape tables needed
HasNoPlace limit shape tables plan.OutOfMemory = Unit {0}
