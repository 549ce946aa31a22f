-- How much tables and their file may hold, as plain numbers.
use Rattle.std.specs.Prelude.{ℕ, List}
use Rattle.srv_edge.specs.declared.failed.Limits.{Limits}
use Rattle.srv_edge.specs.declared.limit.TheConstants.{MOST_BLOCKS, MOST_BYTES, MOST_NAME_BYTES, MOST_RECORDS}
use Rattle.record_table.specs.Table as records

pub record Bounds : Type 0 where
  -- records of each table, and their bytes
  pub records : ℕ
  pub bytes : ℕ
  -- bytes of the strings of the names
  pub name_bytes : ℕ
  -- blocks of the file
  pub blocks : ℕ

abbrev pub bounds_of : Limits → Bounds
bounds_of limits = record { records = limits.records; bytes = limits.bytes; name_bytes = limits.name_bytes; blocks = limits.blocks }

-- those of the program
abbrev pub standard : Bounds
standard = record { records = MOST_RECORDS; bytes = MOST_BYTES; name_bytes = MOST_NAME_BYTES; blocks = MOST_BLOCKS }

-- a table of these records within bounds
abbrev pub bounded_table : Bounds → List (List ℕ) → records.Table
bounded_table bounds list = record { max_records = bounds.records; max_bytes = bounds.bytes; records = list }
