-- What the contents of a file's streams hold: each test in its order, and the first that fails is the damage. docs/FORMAT.md has the
-- tests of each stream.
use Rattle.std.specs.Prelude.{ℕ, ◌==◌, ◌&&◌, nat_le, not, Bool, if◌then◌else◌, List, [], ◌∷◌, slice_index_or, codes, Option, None, Some, is_none, unwrap_or, Result, Ok, Err}
use Rattle.std.specs.List.{list_any}
use Rattle.table_model.specs.Bounds.{Bounds, bounded_table}
use Rattle.leaf_grammar.specs.declared.grammar.Space.{Space}
use Rattle.leaf_grammar.specs.declared.grammar.Space.TheVariants.{Types, Items}
use Rattle.msf_blocks.specs.Judging.{◌>>=◌, told_by}
use Rattle.msf_image.specs.declared.fault.Damage.{Damage}
use Rattle.msf_image.specs.declared.fault.DamageKind.TheVariants as kind
use Rattle.info_stream.specs.Named.{age_in, stream_named}
use Rattle.tpi_stream.specs.declared.reading.Records.{Records}
use Rattle.tpi_stream.specs.Reading as records
use Rattle.names_table.specs.Names.{Names}
use Rattle.names_table.specs.Reading as names
use Rattle.table_model.specs.Tables.{Tables}
use Rattle.type_store.specs.Faults.{absent_damage, damage_at, hash_damage, info_damage, names_damage, record_damage}

-- the contents of all streams, stream 0 first: each is absent, or bytes
abbrev pub Contents : Type 0
Contents = List (Option (List ℕ))

-- the content of a stream; one that is not there is absent
abbrev pub content_at : Contents → ℕ → Option (List ℕ)
content_at contents i = slice_index_or contents i None

-- what contents hold: the records with the headers before them, and the names with the number of their stream
pub record Held : Type 0 where
  pub age : ℕ
  pub types : Records
  pub items : Records
  pub names_stream : ℕ
  pub names : Names

-- the tables that are made of it
abbrev pub tables_of : Bounds → Held → Tables
tables_of bounds held = record { types = bounded_table bounds held.types.list; items = bounded_table bounds held.items.list; names = held.names }

-- a content, or the damage where it is absent
abbrev pub there : Damage → Option (List ℕ) → Result (List ℕ) Damage
there damage None = Err damage
there damage (Some content) = Ok content

-- The PDB stream: the number of the stream of names, and the age, which is there where the names are.
unfoldable pub info_in : Contents → Result (ℕ × ℕ) Damage
info_in contents = do
  info ← there (damage_at kind.InfoShort 0) (content_at contents 1)
  number ← told_by info_damage (stream_named info (codes "/names"))
  Ok (number, unwrap_or (age_in info) 0)

-- a stream may have this number, beside others: it is none of the first five, is there, and is none of the others
unfoldable pub is_apart : Contents → List ℕ → ℕ → Bool
is_apart contents others i = nat_le 5 i && (not (is_none (content_at contents i)) && not (list_any (λ other. other == i) others))

-- the streams of types and of items
abbrev pub stream_of : Space → ℕ
stream_of Types = 2
stream_of Items = 4

abbrev pub with_hashes : Bool → Space → Records → Result Records Damage
with_hashes may space records = if may then Ok records else Err (hash_damage space)

-- The records of a stream, whose hash stream is there and is none of the others. The hash stream itself is not read.
unfoldable pub records_held : Bounds → Contents → Space → List ℕ → Result Records Damage
records_held bounds contents space others = do
  stream ← there (absent_damage space) (content_at contents (stream_of space))
  found ← told_by (record_damage space) (records.reading bounds.records bounds.bytes stream)
  with_hashes (is_apart contents others found.header.hash_stream) space found

-- the content of a stream that is none of the others
abbrev pub content_apart : Contents → List ℕ → ℕ → Option (List ℕ)
content_apart contents others i = if is_apart contents others i then content_at contents i else None

-- the names of the stream of this number
unfoldable pub names_held : Bounds → Contents → List ℕ → ℕ → Result Names Damage
names_held bounds contents others i = do
  stream ← there (damage_at kind.NamesStream i) (content_apart contents others i)
  told_by names_damage (names.reading bounds.name_bytes stream)

-- what contents hold within bounds, or their first damage
unfoldable pub holding : Bounds → Contents → Result Held Damage
holding bounds contents = do
  info ← info_in contents
  types ← records_held bounds contents Types []
  items ← records_held bounds contents Items (types.header.hash_stream ∷ [])
  names ← names_held bounds contents (types.header.hash_stream ∷ items.header.hash_stream ∷ []) info.0
  Ok (record { age = info.1; types = types; items = items; names_stream = info.0; names = names })
