-- The edits of a commit may be made of streams of the sizes on which a commit is built.
use Rattle.std.proofs.Common.{◌≡◌, ◌≤◌, ◌<◌, ℕ, Bool, true, false, List, length, Option, None, Some, IsSome, refl, sym, subst, ◌∙◌, arith, codes}
use Rattle.std.specs.List.{AllByRecursion}
use Rattle.std.proofs.Math.Nat.{div-le_self}
use Rattle.table_model.specs.Bounds.{Bounds}
use Rattle.stream_directory.specs.Directory.{StreamBlocks, absent_size}
use Rattle.cow_streams.specs.Edits.{AreEdits}
use Rattle.info_stream.specs.Text.{with_age}
use Rattle.info_stream.proofs.Ages.{length-with_age}
use Rattle.tpi_stream.proofs.Growing.{length-hash_text}
use Rattle.tpi_stream.proofs.WrittenStreams.{length-index_offsets, length-record_stream_text}
use Rattle.record_table.specs.Table.{IsKept, Table}
use Rattle.names_table.specs.Names.{IsNamesTable, Names}
use Rattle.names_table.proofs.Growing.{length-names_text}
use Rattle.names_table.proofs.Offsets.{length-le}
use Rattle.table_model.specs.Tables.{Tables}
use Rattle.type_store.specs.Commit.{commit_edits, extent_of}
use Rattle.type_store.specs.Committed.{GoesOn}
use Rattle.type_store.specs.Shape.{AreBaseSizes, HaveRoom, Reaches, Sizes, hash_stream_size, names_stream_size, record_stream_size, shape_of, size_at, sizes_in, written_sizes}
use Rattle.type_store.specs.Written.{AreWithin, CanKeep, KeptNumbers}
use Rattle.type_store.proofs.Changes.{IsMade, changes_may_be_made}
use Rattle.type_store.proofs.Leaving.{all_changes, changes, distinct}
use Rattle.type_store.proofs.Named.{named_long}
use Rattle.type_store.proofs.Shaping.{whole_parts}
use Rattle.type_store.proofs.Sizes.{there_below, written_at, written_info, written_item_hashes, written_names, written_type_hashes}
use Rattle.type_store.proofs.Streams.{HasRoom, IsExact, hash_parts, names_parts, record_parts}

-- ---- sizes on which a commit is built

-- the sizes of the streams of a commit, where they have these tables
pub record HasSizes (fresh : Bool) (kept : KeptNumbers) (info : List ℕ) (tables : Tables) (sizes : Sizes) : Type 0 where
  pub info_there : size_at sizes 1 ≡ Some (length info)
  pub types : ℕ
  pub types_there : size_at sizes 2 ≡ Some types
  pub types_room : HasRoom fresh (record_stream_size tables.types.records) types
  pub items : ℕ
  pub items_there : size_at sizes 4 ≡ Some items
  pub items_room : HasRoom fresh (record_stream_size tables.items.records) items
  pub type_hashes : ℕ
  pub type_hashes_there : size_at sizes kept.types.hash_stream ≡ Some type_hashes
  pub type_hashes_are : IsExact fresh (hash_stream_size tables.types.records) type_hashes
  pub item_hashes : ℕ
  pub item_hashes_there : size_at sizes kept.items.hash_stream ≡ Some item_hashes
  pub item_hashes_are : IsExact fresh (hash_stream_size tables.items.records) item_hashes
  pub names : ℕ
  pub names_there : size_at sizes kept.names_stream ≡ Some names
  pub names_are : IsExact fresh (names_stream_size tables.names.names) names

reached : (o : Option ℕ) (n : ℕ) → Reaches o n → (m : ℕ) × (o ≡ Some m) × (n ≤ m)
reached None n is = absurd is
reached (Some m) n is = (m, refl, is)

something : (o : Option ℕ) → IsSome o → (m : ℕ) × (o ≡ Some m)
something None is = absurd cc
something (Some m) is = (m, refl)

opened_sizes : (kept : KeptNumbers) (info : List ℕ) (tables : Tables) (sizes : Sizes) → HaveRoom kept info tables sizes → HasSizes true kept info tables sizes
opened_sizes kept info tables sizes have =
    let types = reached (size_at sizes 2) (record_stream_size tables.types.records) have.types in
    let items = reached (size_at sizes 4) (record_stream_size tables.items.records) have.items in
    let type_hashes = something (size_at sizes kept.types.hash_stream) have.type_hashes in
    let item_hashes = something (size_at sizes kept.items.hash_stream) have.item_hashes in
    let names = something (size_at sizes kept.names_stream) have.names in
    record {
      info_there = have.info_stream;
      types = types.0;
      types_there = types.1;
      types_room = types.2;
      items = items.0;
      items_there = items.1;
      items_room = items.2;
      type_hashes = type_hashes.0;
      type_hashes_there = type_hashes.1;
      type_hashes_are = λ e. absurd cc;
      item_hashes = item_hashes.0;
      item_hashes_there = item_hashes.1;
      item_hashes_are = λ e. absurd cc;
      names = names.0;
      names_there = names.1;
      names_are = λ e. absurd cc;
    }

left_sizes : (block blocks : ℕ) (opened : Sizes) (kept : KeptNumbers) (info : List ℕ) (first tables : Tables) → CanKeep kept info → HaveRoom kept info first opened
    → HasSizes false kept info tables (written_sizes (shape_of block blocks opened kept) tables)
left_sizes block blocks opened kept info first tables can have =
    let shape = shape_of block blocks opened kept in
    let was = opened_sizes kept info first opened have in
    let at = λ (i n : ℕ) (there : size_at opened i ≡ Some n). written_at shape tables i (there_below opened i n there) in
    record {
      info_there = at 1 (length info) was.info_there ∙ written_info block blocks opened kept info can tables (size_at opened 1) ∙ was.info_there;
      types = record_stream_size tables.types.records;
      types_there = at 2 was.types was.types_there;
      types_room = refl;
      items = record_stream_size tables.items.records;
      items_there = at 4 was.items was.items_there;
      items_room = refl;
      type_hashes = hash_stream_size tables.types.records;
      type_hashes_there = at kept.types.hash_stream was.type_hashes was.type_hashes_there ∙ written_type_hashes block blocks opened kept info can tables (size_at opened kept.types.hash_stream);
      type_hashes_are = λ e. refl;
      item_hashes = hash_stream_size tables.items.records;
      item_hashes_there = at kept.items.hash_stream was.item_hashes was.item_hashes_there ∙ written_item_hashes block blocks opened kept info can tables (size_at opened kept.items.hash_stream);
      item_hashes_are = λ e. refl;
      names = names_stream_size tables.names.names;
      names_there = at kept.names_stream was.names was.names_there ∙ written_names block blocks opened kept info can tables (size_at opened kept.names_stream);
      names_are = λ e. refl;
    }

pub base_sizes : (fresh : Bool) (block blocks : ℕ) (opened sizes : Sizes) (kept : KeptNumbers) (info : List ℕ) (first tables : Tables) → CanKeep kept info → HaveRoom kept info first opened
    → AreBaseSizes fresh (shape_of block blocks opened kept) first tables sizes → HasSizes fresh kept info tables sizes
base_sizes true block blocks opened sizes kept info first tables can have base =
    let Has = λ (t : Tables) (s : Sizes). HasSizes true kept info t s in
    subst (λ t. Has t sizes) (sym base.1) (subst (λ s. Has first s) (sym base.0) (opened_sizes kept info first opened have))
base_sizes false block blocks opened sizes kept info first tables can have base = subst (λ s. HasSizes false kept info tables s) (sym base) (left_sizes block blocks opened kept info first tables can have)

-- ---- texts that a directory can have

pub short_records : (table : Table) → IsKept table → record_stream_size table.records < absent_size
short_records table is = omega (arith, is.within.short, is.most_bytes)

pub short_hashes : (table : Table) → IsKept table → hash_stream_size table.records < absent_size
short_hashes table is = omega (arith, is.within.few, is.most_records, length-index_offsets table.records)

pub short_names : (table : Names) → IsNamesTable table → names_stream_size table.names < absent_size
short_names table is = omega (arith, length-le table.names, is.bytes, is.limit, div-le_self (length table.names) 4)

-- ---- the edits of a commit

module _ (size : ℕ) (fresh : Bool) (limits : Bounds) (kept : KeptNumbers) (info : List ℕ) (age : ℕ) (old tables : Tables) (sizes : Sizes) (can : CanKeep kept info) (on : GoesOn old tables) (within : AreWithin limits tables) (short : length info < absent_size) (s : HasSizes fresh kept info old sizes) where
  pub made : AllByRecursion (IsMade size sizes) (changes size kept (extent_of fresh old) info age tables)
  made = (
    record {
      old = length info;
      present = s.info_there;
      not_first = omega arith;
      short = omega (arith, short, length-with_age info age (named_long info (codes "/names") kept.names_stream can.names));
      parts = whole_parts size 1 (length info) (with_age info age);
    },
    (
      record {
        old = s.types;
        present = s.types_there;
        not_first = omega arith;
        short = omega (arith, short_records tables.types within.types, length-record_stream_text kept.types tables.types.records);
        parts = record_parts size 2 s.types fresh kept.types old.types.records tables.types.records on.extends.types s.types_room;
      },
      (
        record {
          old = s.items;
          present = s.items_there;
          not_first = omega arith;
          short = omega (arith, short_records tables.items within.items, length-record_stream_text kept.items tables.items.records);
          parts = record_parts size 4 s.items fresh kept.items old.items.records tables.items.records on.extends.items s.items_room;
        },
        (
          record {
            old = s.type_hashes;
            present = s.type_hashes_there;
            not_first = omega (arith, can.type_hashes);
            short = omega (arith, short_hashes tables.types within.types, length-hash_text kept.types.buckets tables.types.records);
            parts = hash_parts size s.type_hashes fresh kept.types old.types.records tables.types.records on.extends.types s.type_hashes_are;
          },
          (
            record {
              old = s.item_hashes;
              present = s.item_hashes_there;
              not_first = omega (arith, can.item_hashes);
              short = omega (arith, short_hashes tables.items within.items, length-hash_text kept.items.buckets tables.items.records);
              parts = hash_parts size s.item_hashes fresh kept.items old.items.records tables.items.records on.extends.items s.item_hashes_are;
            },
            (
              record {
                old = s.names;
                present = s.names_there;
                not_first = omega (arith, can.names_stream);
                short = omega (arith, short_names tables.names within.names, length-names_text tables.names.version tables.names.names);
                parts = names_parts size kept.names_stream s.names fresh old.names.names tables.names on.extends.names s.names_are;
              },
              tt,
            ),
          ),
        ),
      ),
    ),
  )

pub edits_allowed : (size : ℕ) (fresh : Bool) (limits : Bounds) (kept : KeptNumbers) (info : List ℕ) (age : ℕ) (old tables : Tables) (streams : List (Option StreamBlocks)) → CanKeep kept info → GoesOn old tables → AreWithin limits tables → length info < absent_size
    → HasSizes fresh kept info old (sizes_in streams) → AreEdits size streams (commit_edits size kept (extent_of fresh old) info age tables)
edits_allowed size fresh limits kept info age old tables streams can on within short s =
    subst (λ es. AreEdits size streams es) (sym (all_changes size kept (extent_of fresh old) info age tables))
    (changes_may_be_made size streams (changes size kept (extent_of fresh old) info age tables) (distinct size kept (extent_of fresh old) info age tables can)
    (made size fresh limits kept info age old tables (sizes_in streams) can on within short s))
