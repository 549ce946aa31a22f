-- What a commit of tables writes of the streams: edits in whole blocks. docs/FORMAT.md, "What a commit writes".
use Rattle.std.specs.Prelude.{ℕ, ◌+◌, ◌*◌, ◌/◌, nat_lt, Bool, if◌then◌else◌, List, [], ◌∷◌, ◌++◌, length, take, drop}
use Rattle.srv_edge.specs.Records.{joined}
use Rattle.msf_blocks.specs.Edit.{StreamEdit}
use Rattle.info_stream.specs.Text.{with_age}
use Rattle.tpi_stream.specs.declared.header.Kept.{Kept}
use Rattle.tpi_stream.specs.declared.header.TheConstants.{HEADER_BYTES, KEY_BYTES}
use Rattle.tpi_stream.specs.Hashes.{hash_text, index_offsets}
use Rattle.tpi_stream.specs.Written.{record_stream_text}
use Rattle.names_table.specs.declared.read.TheConstants as names
use Rattle.names_table.specs.Names.{Names, bytes_of}
use Rattle.names_table.specs.Text.{names_text}
use Rattle.table_model.specs.Tables.{Tables}
use Rattle.type_store.specs.Written.{KeptNumbers}

-- ---- how far the streams reach on which a commit builds

-- how many records a stream has, their bytes, and the text of their index offsets
pub record RecordExtent : Type 0 where
  pub count : ℕ
  pub bytes : ℕ
  pub offsets : List ℕ

-- the streams of an image: it is fresh while it is as it was opened or created
pub record Extent : Type 0 where
  pub fresh : Bool
  pub types : RecordExtent
  pub items : RecordExtent
  -- of the strings of the names, with the NUL of the empty one
  pub name_bytes : ℕ

abbrev pub record_extent : List (List ℕ) → RecordExtent
record_extent records = record { count = length records; bytes = length (joined records); offsets = index_offsets records }

-- the streams of an image that has these tables
abbrev pub extent_of : Bool → Tables → Extent
extent_of fresh tables = record {
  fresh = fresh;
  types = record_extent tables.types.records;
  items = record_extent tables.items.records;
  name_bytes = bytes_of tables.names.names;
}

-- ---- edits of one stream

-- all of a text from a place on
abbrev pub all_from : ℕ → List ℕ → ℕ → StreamEdit
all_from stream text at = record { stream = stream; at = at; bytes = drop at text; len = length text }

-- the first block of a text
abbrev pub first_block : ℕ → ℕ → List ℕ → StreamEdit
first_block size stream text = record { stream = stream; at = 0; bytes = take size text; len = length text }

-- where the block of a place begins
abbrev pub block_start : ℕ → ℕ → ℕ
block_start size place = place / size * size

-- The first block of a text, and all from the block of a place on, which may be the first too.
abbrev pub first_and_from : ℕ → ℕ → List ℕ → ℕ → List StreamEdit
first_and_from size stream text place =
    if nat_lt place size then all_from stream text 0 ∷ [] else first_block size stream text ∷ all_from stream text (block_start size place) ∷ []

-- ---- the streams of a commit

-- A stream of records. Where records came: its first block, and all from the block of their old end on. Else nothing, but
-- over a fresh image its first block.
unfoldable pub record_edits : ℕ → Bool → ℕ → RecordExtent → Kept → List (List ℕ) → List StreamEdit
record_edits size fresh stream old kept records =
    if nat_lt old.count (length records) then first_and_from size stream (record_stream_text kept records) (HEADER_BYTES + old.bytes)
    else (if fresh then first_block size stream (record_stream_text kept records) ∷ [] else [])

-- The hash stream of records. Over a fresh image all of it. Else, where records came, all from the block of the old end of
-- the hashes on.
unfoldable pub hash_edits : ℕ → Bool → RecordExtent → Kept → List (List ℕ) → List StreamEdit
hash_edits size fresh old kept records =
    if fresh then all_from kept.hash_stream (hash_text records kept.buckets) 0 ∷ []
    else (if nat_lt old.count (length records) then all_from kept.hash_stream (hash_text records kept.buckets) (block_start size (KEY_BYTES * old.count)) ∷ [] else [])

-- The stream of names, whose strings had so many bytes. Over a fresh image all of it. Else, where names came, its first
-- block, and all from the block of the old end of the strings on.
unfoldable pub names_edits : ℕ → Bool → ℕ → ℕ → Names → List StreamEdit
names_edits size fresh stream old_bytes table =
    if fresh then all_from stream (names_text table.version table.names) 0 ∷ []
    else (if nat_lt old_bytes (bytes_of table.names) then first_and_from size stream (names_text table.version table.names) (names.HEADER_BYTES + old_bytes) else [])

-- All edits of a commit of tables under an age: the PDB stream, which was `info` but for its age, the streams of types and of
-- items, their hash streams, and the stream of names.
unfoldable pub commit_edits : ℕ → KeptNumbers → Extent → List ℕ → ℕ → Tables → List StreamEdit
commit_edits size kept old info age tables =
    all_from 1 (with_age info age) 0
    ∷ (record_edits size old.fresh 2 old.types kept.types tables.types.records
    ++ (record_edits size old.fresh 4 old.items kept.items tables.items.records
    ++ (hash_edits size old.fresh old.types kept.types tables.types.records
    ++ (hash_edits size old.fresh old.items kept.items tables.items.records
    ++ names_edits size old.fresh kept.names_stream old.name_bytes tables.names))))
