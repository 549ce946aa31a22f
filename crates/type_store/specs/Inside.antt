-- What a file was, and its cuts, by the parts of the program's file. No public clause cites this.
use Rattle.std.specs.Prelude.{ℕ, List, Option, None, Some}
use Rattle.msf_image.specs.declared.image.Image.{Image}
use Rattle.table_model.specs.Bounds.{bounds_of}
use Rattle.table_model.specs.Cut.{Cut}
use Rattle.table_model.specs.File.{File, doubt, settled}
use Rattle.std.specs.declared.snapshot.Snapshot.{Snapshot}
use Rattle.type_store.specs.declared.file.Origin as program
use Rattle.type_store.specs.Files.{Begun, Origin, Pending, cut_of}
use Rattle.type_store.specs.Shape.{shape_of, sizes_in}
use Rattle.type_store.specs.Views.{tables_in}

abbrev pub cut_in : Begun → Cut
cut_in b = b.cut

abbrev pub cuts_of : Option Begun → Begun → File
cuts_of None newest = settled (cut_in newest)
cuts_of (Some before) newest = doubt (cut_in before) (cut_in newest)

abbrev pub origin_of : {D : Type 0} → (D → List ℕ) → program.Origin D → Origin
origin_of seen o = record {
  bounds = bounds_of o.limits;
  kept = o.kept;
  info = o.info.items;
  first = cut_of o.number (tables_in o.tables.value);
  opened = seen o.store.value.device;
  image = o.image.value;
  shape = shape_of o.image.value.head.block o.image.value.head.blocks (sizes_in o.image.value.directory) o.kept;
}

abbrev pub ready_of : Option (Snapshot Pending) → Option Pending
ready_of None = None
ready_of (Some pending) = Some pending.value
