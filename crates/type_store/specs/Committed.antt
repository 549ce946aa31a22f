-- The contents that commits leave, said over those that were opened or created.
use Rattle.std.specs.Prelude.{◌≡◌, ◌≤◌, ℕ, ◌==◌, Bool, true, false, List, [], ◌∷◌, length, drop, Some, Ok}
use Rattle.std.specs.List.{list_any}
use Rattle.srv_edge.specs.Records.{joined}
use Rattle.srv_edge.specs.declared.limit.TheConstants.{MOST_BYTES, MOST_RECORDS}
use Rattle.table_model.specs.Bounds.{Bounds}
use Rattle.msf_blocks.specs.Edit.{StreamEdit}
use Rattle.cow_streams.specs.Edits.{edited}
use Rattle.table_model.specs.Extends.{Extends, StartsWith}
use Rattle.table_model.specs.Tables.{Tables}
use Rattle.type_store.specs.Commit.{Extent, RecordExtent, extent_of, record_extent}
use Rattle.type_store.specs.Holds.{Contents, Held, content_at, holding, tables_of}
use Rattle.type_store.specs.Written.{IsWritten, KeptNumbers, numbers_of}

-- the contents that edits make of others: stream 0 has no bytes from now on
abbrev pub edited_contents : List StreamEdit → Contents → Contents
edited_contents edits contents = Some [] ∷ edited edits (drop 1 contents)

-- the streams that commits write
abbrev pub written_streams : KeptNumbers → List ℕ
written_streams kept = 1 ∷ 2 ∷ 4 ∷ kept.types.hash_stream ∷ kept.items.hash_stream ∷ kept.names_stream ∷ []

-- Commits over old contents, of which the PDB stream was `info`, left new ones: these are written for an age and tables,
-- stream 0 has no bytes, and every other stream is as it was.
pub record IsCommitted (kept : KeptNumbers) (info : List ℕ) (age : ℕ) (tables : Tables) (old new : Contents) : Type 0 where
  pub written : IsWritten kept info age tables new
  pub first : content_at new 0 ≡ Some []
  pub count : length new ≡ length old
  pub others : (i : ℕ) → 1 ≤ i → list_any (λ stream. stream == i) (written_streams kept) ≡ false → content_at new i ≡ content_at old i

-- contents that hold an age and tables, and keep these numbers beside their PDB stream
pub record HoldsTables (limits : Bounds) (kept : KeptNumbers) (info : List ℕ) (age : ℕ) (tables : Tables) (contents : Contents) : Type 0 where
  pub held : Held
  pub holds : holding limits contents ≡ Ok held
  pub info_stream : content_at contents 1 ≡ Some info
  pub kept_are : numbers_of held ≡ kept
  pub age_is : held.age ≡ age
  pub tables_are : tables_of limits held ≡ tables

-- tables with which a file may go on: they extend others, and the hashes of names have the same version
pub record GoesOn (old new : Tables) : Type 0 where
  pub extends : Extends old new
  pub version : new.names.version ≡ old.names.version

-- an extent is that of records with which others go on
pub record RecordsGoOn (old : RecordExtent) (records : List (List ℕ)) : Type 0 where
  pub before : List (List ℕ)
  pub is : old ≡ record_extent before
  pub starts : StartsWith before records

-- records that go on from others, within the limits of all tables
pub record RecordsChange (old new : RecordExtent) (records : List (List ℕ)) : Type 0 where
  pub base : RecordsGoOn old records
  pub is : new ≡ record_extent records
  pub few : length records ≤ MOST_RECORDS
  pub short : length (joined records) ≤ MOST_BYTES

-- an extent is that of tables with which others go on
pub record BuildsOn (old : Extent) (tables : Tables) : Type 0 where
  pub before : Tables
  pub is : old ≡ extent_of old.fresh before
  pub on : GoesOn before tables

-- Contents on which a commit may be built, by whether they are fresh: those that were opened, with the tables that they hold;
-- or those that commits left over them.
abbrev pub IsBase : Bool → KeptNumbers → List ℕ → ℕ → Tables → Contents → Tables → Contents → Type 0
IsBase true kept info age first opened tables contents = (contents ≡ opened) × (tables ≡ first)
IsBase false kept info age first opened tables contents = IsCommitted kept info age tables opened contents
