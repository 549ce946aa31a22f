-- What the contents of a file are that is written for tables, and what they hold.
use Rattle.std.specs.Prelude.{◌≡◌, ◌≢◌, ◌≤◌, ◌<◌, ◌^◌, ℕ, List, All, codes, Some, Ok}
use Rattle.table_model.specs.Bounds.{Bounds, bounded_table}
use Rattle.info_stream.specs.Named.{stream_named}
use Rattle.info_stream.specs.Text.{with_age}
use Rattle.tpi_stream.specs.Hashes.{hash_text}
use Rattle.tpi_stream.specs.Written.{CanBeKept, kept_of, record_stream_text, written_header}
use Rattle.record_table.specs.Table.{IsKept}
use Rattle.names_table.specs.Names.{IsNamesTable}
use Rattle.names_table.specs.Text.{names_text}
use Rattle.table_model.specs.Tables.{Tables}
pub use Rattle.type_store.specs.declared.tables.KeptNumbers.{KeptNumbers}
use Rattle.type_store.specs.Holds.{Contents, Held, content_at}

-- all contents are bytes
abbrev pub HaveBytes : Contents → Type 0
HaveBytes contents = (i : ℕ) (stream : List ℕ) → content_at contents i ≡ Some stream → All (λ byte. byte < 2 ^ 8) stream

-- the numbers that what is held keeps
abbrev pub numbers_of : Held → KeptNumbers
numbers_of held = record { types = kept_of held.types.header; items = kept_of held.items.header; names_stream = held.names_stream }

-- Contents are written for an age and tables, where the PDB stream was `info` before: six streams are exactly their texts.
pub record IsWritten (kept : KeptNumbers) (info : List ℕ) (age : ℕ) (tables : Tables) (contents : Contents) : Type 0 where
  pub info_stream : content_at contents 1 ≡ Some (with_age info age)
  pub types : content_at contents 2 ≡ Some (record_stream_text kept.types tables.types.records)
  pub items : content_at contents 4 ≡ Some (record_stream_text kept.items tables.items.records)
  pub type_hashes : content_at contents kept.types.hash_stream ≡ Some (hash_text tables.types.records kept.types.buckets)
  pub item_hashes : content_at contents kept.items.hash_stream ≡ Some (hash_text tables.items.records kept.items.buckets)
  pub names : content_at contents kept.names_stream ≡ Some (names_text tables.names.version tables.names.names)

-- Numbers that can be kept beside a PDB stream: they fit their fields, it names the stream of names, and the hash streams and
-- that of names are three, and none of the first five.
pub record CanKeep (kept : KeptNumbers) (info : List ℕ) : Type 0 where
  pub types : CanBeKept kept.types
  pub items : CanBeKept kept.items
  pub names : stream_named info (codes "/names") ≡ Ok kept.names_stream
  pub type_hashes : 5 ≤ kept.types.hash_stream
  pub item_hashes : 5 ≤ kept.items.hash_stream
  pub names_stream : 5 ≤ kept.names_stream
  pub two_hashes : kept.types.hash_stream ≢ kept.items.hash_stream
  pub names_no_types : kept.types.hash_stream ≢ kept.names_stream
  pub names_no_items : kept.items.hash_stream ≢ kept.names_stream

-- tables as they are kept, with the limits of a file
pub record AreWithin (limits : Bounds) (tables : Tables) : Type 0 where
  pub types : IsKept tables.types
  pub items : IsKept tables.items
  pub names : IsNamesTable tables.names
  pub type_limits : tables.types ≡ bounded_table limits tables.types.records
  pub item_limits : tables.items ≡ bounded_table limits tables.items.records
  pub name_limit : tables.names.max_bytes ≡ limits.name_bytes

-- what is held by contents that are written for an age and tables
abbrev pub written_held : KeptNumbers → ℕ → Tables → Held
written_held kept age tables = record {
  age = age;
  types = record { header = written_header kept.types tables.types.records; list = tables.types.records };
  items = record { header = written_header kept.items tables.items.records; list = tables.items.records };
  names_stream = kept.names_stream;
  names = tables.names;
}
