-- The tables of a file that was just opened.
use Rattle.std.proofs.Common.{ap}
use Rattle.table_model.specs.Bounds.{Bounds}
use Rattle.table_model.specs.Tables.{Tables}
use Rattle.type_store.specs.Files.{HasBounds}
use Rattle.type_store.specs.Written.{AreWithin}

-- tables within the bounds of a file have them
pub within_bounds : (bounds : Bounds) (tables : Tables) → AreWithin bounds tables → HasBounds bounds tables
within_bounds bounds tables within = record {
  type_records = ap (λ t. t.max_records) within.type_limits;
  type_bytes = ap (λ t. t.max_bytes) within.type_limits;
  item_records = ap (λ t. t.max_records) within.item_limits;
  item_bytes = ap (λ t. t.max_bytes) within.item_limits;
  names = within.name_limit;
}
