-- How the streams of an opened file are read.
use Rattle.std.specs.Prelude.{◌≡◌, ◌≤◌, ◌<◌, ℕ, ◌+◌, ◌^◌, ◌==◌, ◌&&◌, nat_le, not, Bool, true, List, length, codes, All, Option, Some, is_none, Result, Ok}
use Rattle.std.specs.List.{list_any}
use Rattle.std.specs.Option.{option_map}
use Rattle.srv_edge.specs.declared.device.Device.{Ghosts}
use Rattle.srv_edge.specs.Reading.{OnlyReads}
use Rattle.srv_edge.specs.Records.{joined}
use Rattle.leaf_grammar.specs.declared.grammar.Space.{Space}
use Rattle.info_stream.specs.Named.{age_in, stream_named}
use Rattle.tpi_stream.specs.declared.header.Header.{Header}
use Rattle.tpi_stream.specs.declared.header.TheConstants.{HEADER_BYTES}
use Rattle.tpi_stream.specs.Stream.{IsHeader}
use Rattle.tpi_stream.specs.declared.reading.Records.{Records}
use Rattle.tpi_stream.specs.Reading as records
use Rattle.record_table.specs.Table.{IsKept, IsRecord}
use Rattle.names_table.specs.Names.{IsNamesTable, Names}
use Rattle.names_table.specs.Reading as names
use Rattle.msf_image.specs.declared.fault.DamageKind.TheVariants as kind
use Rattle.table_model.specs.Bounds.{Bounds, bounded_table}
use Rattle.msf_blocks.specs.Judging.{◌>>=◌, told_by}
use Rattle.msf_image.specs.declared.fault.Damage.{Damage}
use Rattle.type_store.specs.Faults.{absent_damage, damage_at, names_damage, record_damage}
use Rattle.table_model.specs.Tables.{Tables}
use Rattle.type_store.specs.Shape.{HaveRoom, sizes_in}
use Rattle.type_store.specs.Written.{AreWithin, CanKeep, KeptNumbers}
use Rattle.type_store.specs.Holds.{Contents, content_at, stream_of, there}
use Rattle.stream_directory.specs.Directory.{StreamBlocks, stream_at}
use Rattle.committer.specs.Stored.{Stored}

-- The device of a store was only read, and the file is as it was.
pub record OnlyReadsStore {D : Type 0} (device : Ghosts D) (old new : Stored D) : Type 0 where
  pub file : new.file ≡ old.file
  pub limit : new.limit ≡ old.limit
  pub device_reads : OnlyReads device old.device new.device

-- the size of a stream, where it is there
abbrev pub size_in : List (Option StreamBlocks) → ℕ → Option ℕ
size_in streams i = option_map (λ (s : StreamBlocks). s.size) (stream_at streams i)

-- A stream of this number may stand beside others: it is none of the first five, is there, and is none of the others.
abbrev pub is_apart_in : List (Option StreamBlocks) → List ℕ → ℕ → Bool
is_apart_in streams others i = nat_le 5 i && (not (is_none (stream_at streams i)) && not (list_any (λ other. other == i) others))

-- ---- what is known of the streams that were read, whatever the device tells

-- the PDB stream, with the number of the stream of names and the age
pub record HasInfo (streams : List (Option StreamBlocks)) (info : List ℕ) (names_stream age : ℕ) : Type 0 where
  pub size : size_in streams 1 ≡ Some (length info)
  pub names : stream_named info (codes "/names") ≡ Ok names_stream
  pub age_is : age_in info ≡ Some age
  pub small : age < 2 ^ 32

-- the records of a stream, with the header before them
pub record HasRecords (bounds : Bounds) (streams : List (Option StreamBlocks)) (space : Space) (others : List ℕ) (h : Header) (records : List (List ℕ)) : Type 0 where
  pub header : IsHeader h
  pub kept : IsKept (bounded_table bounds records)
  -- the stream has them behind its header
  pub size : ℕ
  pub size_is : size_in streams (stream_of space) ≡ Some size
  pub long : HEADER_BYTES + length (joined records) ≤ size
  pub apart : is_apart_in streams others h.hash_stream ≡ true

-- the names of a stream
pub record HasNames (bounds : Bounds) (streams : List (Option StreamBlocks)) (others : List ℕ) (number : ℕ) (names : Names) : Type 0 where
  pub kept : IsNamesTable names
  pub limit : names.max_bytes ≡ bounds.name_bytes
  pub apart : is_apart_in streams others number ≡ true

-- ---- the records of a stream, before its hash stream is judged

abbrev pub records_told : Bounds → Contents → Space → Result Records Damage
records_told bounds contents space =
    there (absent_damage space) (content_at contents (stream_of space)) >>= λ stream. told_by (record_damage space) (records.reading bounds.records bounds.bytes stream)

-- records that stand in a stream of this size, behind their header
pub record AreRead (bounds : Bounds) (size : ℕ) (read : Records) : Type 0 where
  pub header : IsHeader read.header
  pub all : All IsRecord read.list
  pub few : length read.list ≤ bounds.records
  pub short : length (joined read.list) ≤ bounds.bytes
  pub long : HEADER_BYTES + length (joined read.list) ≤ size

-- the same of the stream of types or of items
abbrev pub AreInStream : Bounds → List (Option StreamBlocks) → Space → Records → Type 0
AreInStream bounds streams space read = (size : ℕ) × (size_in streams (stream_of space) ≡ Some size) × AreRead bounds size read

-- the names of a stream that stands apart
abbrev pub names_told : Bounds → Contents → ℕ → Result Names Damage
names_told bounds contents i = there (damage_at kind.NamesStream i) (content_at contents i) >>= λ stream. told_by names_damage (names.reading bounds.name_bytes stream)

-- ---- all of them

-- What is known of an opened file whatever its device tells: numbers that can be kept, tables within their bounds, and streams
-- that reach so far.
pub record AreStreams (bounds : Bounds) (streams : List (Option StreamBlocks)) (kept : KeptNumbers) (info : List ℕ) (age : ℕ) (tables : Tables) : Type 0 where
  pub can : CanKeep kept info
  pub age_is : age_in info ≡ Some age
  pub small : age < 2 ^ 32
  pub within : AreWithin bounds tables
  pub room : HaveRoom kept info tables (sizes_in streams)
