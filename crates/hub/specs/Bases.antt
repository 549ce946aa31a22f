-- The basis of a hub: what its file, its tables and its limits were when it was opened.
use Rattle.std.specs.Prelude.{ℕ, ◌+◌, ◌-◌, ◌==◌, if◌then◌else◌, List, ◌∷◌, ◌++◌, length, map, take, drop, Option, None, Some}
use Rattle.srv_edge.specs.declared.device.Device.{Ghosts}
use Rattle.srv_edge.specs.declared.failed.Limits.{Limits}
use Rattle.table_model.specs.Bounds.{Bounds}
use Rattle.table_model.specs.File.{newest_cut}
use Rattle.table_model.specs.Tables.{Tables}
use Rattle.turnstile.specs.declared.history.Basis.{Basis}
use Rattle.type_store.specs.Files.{FileView}
use Rattle.type_store.specs.Shape.{Shape}
use Rattle.core_model.specs.History.{most_blocks, most_bytes, most_name_bytes, most_records, number_at}

-- The size of a stream as one number, 0 for an absent one; and back.
abbrev pub number_of_size : Option ℕ → ℕ
number_of_size None = 0
number_of_size (Some size) = size + 1

abbrev pub size_of_number : ℕ → Option ℕ
size_of_number n = if n == 0 then None else Some (n - 1)

-- the shape of a file as numbers
abbrev pub numbers_of_shape : Shape → List ℕ
numbers_of_shape s = s.block ∷ s.blocks ∷ s.type_hashes ∷ s.item_hashes ∷ s.names_stream ∷ length s.sizes ∷ map number_of_size s.sizes

-- The basis on a file and tables that were just opened, within limits. Behind the numbers that every history has stand the faults of
-- the device, the shape of the file, and the references that the device holds.
abbrev pub basis_of : {D : Type 0} → Ghosts D → Limits → FileView D → Tables → Basis
basis_of g limits f x = record {
  numbers = (newest_cut f.file).number ∷ limits.records ∷ limits.bytes ∷ limits.name_bytes ∷ limits.calls ∷ limits.blocks ∷ x.names.version ∷ g.fault_count f.device ∷ (numbers_of_shape f.shape ++ g.loans f.device);
  types = x.types.records;
  items = x.items.records;
  names = x.names.names;
}

-- ---- what a basis tells

abbrev pub faults_at_opening : Basis → ℕ
faults_at_opening = number_at 7

abbrev pub stream_count : Basis → ℕ
stream_count = number_at 13

abbrev pub shape_in : Basis → Shape
shape_in b = record {
  block = number_at 8 b;
  blocks = number_at 9 b;
  sizes = map size_of_number (take (stream_count b) (drop 14 b.numbers));
  type_hashes = number_at 10 b;
  item_hashes = number_at 11 b;
  names_stream = number_at 12 b;
}

abbrev pub loans_in : Basis → List ℕ
loans_in b = drop (stream_count b) (drop 14 b.numbers)

abbrev pub bounds_in : Basis → Bounds
bounds_in b = record { records = most_records b; bytes = most_bytes b; name_bytes = most_name_bytes b; blocks = most_blocks b }
