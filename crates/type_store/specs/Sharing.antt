-- Which blocks of the streams a commit of tables writes: every other keeps its number. docs/FORMAT.md, "What a commit writes".
use Rattle.std.specs.Prelude.{◌≡◌, ◌≤◌, ◌<◌, ◌+◌, ◌*◌, ◌/◌, ◌==◌, ◌&&◌, ◌||◌, nat_le, nat_lt, ℕ, Bool, false, if◌then◌else◌, List, length, slice_index, Option, None, Some}
use Rattle.srv_edge.specs.Records.{joined}
use Rattle.stream_directory.specs.Directory.{StreamBlocks, stream_at}
use Rattle.msf_image.specs.declared.image.Image.{Image}
use Rattle.tpi_stream.specs.declared.header.TheConstants.{HEADER_BYTES, KEY_BYTES}
use Rattle.names_table.specs.declared.read.TheConstants as names
use Rattle.names_table.specs.Names.{bytes_of}
use Rattle.table_model.specs.Tables.{Tables}
use Rattle.type_store.specs.Shape.{Shape}

-- the first block, and those from the block of a place on
abbrev pub first_or_from : ℕ → ℕ → ℕ → Bool
first_or_from size place k = k == 0 || nat_le (place / size) k

-- Of a stream of records, which grew: its first block, and those from the old end of the records on. Else none, but over a
-- fresh image the first.
abbrev pub writes_records : ℕ → Bool → List (List ℕ) → List (List ℕ) → ℕ → Bool
writes_records size fresh old records k =
    if nat_lt (length old) (length records) then first_or_from size (HEADER_BYTES + length (joined old)) k else fresh && k == 0

-- Of its hash stream: those from the old end of the hashes on, and over a fresh image all.
abbrev pub writes_hashes : ℕ → Bool → List (List ℕ) → List (List ℕ) → ℕ → Bool
writes_hashes size fresh old records k = fresh || (nat_lt (length old) (length records) && nat_le (KEY_BYTES * length old / size) k)

-- Of the names, where names came: the first block, and those from the old end of the strings on. Over a fresh image all.
abbrev pub writes_names : ℕ → Bool → List (List ℕ) → List (List ℕ) → ℕ → Bool
writes_names size fresh old list k = fresh || (nat_lt (bytes_of old) (bytes_of list) && first_or_from size (names.HEADER_BYTES + bytes_of old) k)

-- Whether a commit of tables over old ones writes block k of stream i. The PDB stream is written whole, and of all streams
-- that are none of the six no block.
abbrev pub writes_block : Shape → Bool → Tables → Tables → ℕ → ℕ → Bool
writes_block shape fresh old tables i k =
    i == 1
    || ((i == 2 && writes_records shape.block fresh old.types.records tables.types.records k)
    || ((i == 4 && writes_records shape.block fresh old.items.records tables.items.records k)
    || ((i == shape.type_hashes && writes_hashes shape.block fresh old.types.records tables.types.records k)
    || ((i == shape.item_hashes && writes_hashes shape.block fresh old.items.records tables.items.records k)
    || (i == shape.names_stream && writes_names shape.block fresh old.names.names tables.names.names k)))))

-- A stream before and after: both are there or none, and each block that is not written has the number that it had.
abbrev pub SharesBut : (ℕ → Bool) → Option StreamBlocks → Option StreamBlocks → Type 0
SharesBut writes None None = Unit {0}
SharesBut writes None (Some new) = ⊥
SharesBut writes (Some old) None = ⊥
SharesBut writes (Some old) (Some new) = (k : ℕ) → k < length new.blocks → writes k ≡ false → slice_index new.blocks k ≡ slice_index old.blocks k

-- An image shares with an old one all blocks of streams but those that a commit writes.
abbrev pub Shares : Shape → Bool → Tables → Tables → Image → Image → Type 0
Shares shape fresh old_tables tables old new = (i : ℕ) → 1 ≤ i → SharesBut (writes_block shape fresh old_tables tables i) (stream_at old.directory i) (stream_at new.directory i)

-- Of a stream which had so many bytes each block but the first and that of the old end has the number that it had.
abbrev pub KeepsInner : ℕ → ℕ → Option StreamBlocks → Option StreamBlocks → Type 0
KeepsInner size end None new = Unit {0}
KeepsInner size end (Some old) None = ⊥
KeepsInner size end (Some old) (Some new) = (k : ℕ) → 1 ≤ k → k < end / size → k < length new.blocks → slice_index new.blocks k ≡ slice_index old.blocks k
