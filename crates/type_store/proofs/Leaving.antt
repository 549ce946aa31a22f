-- The edits of a commit: they leave what is written for its tables, over any contents on which it may be built.
use Rattle.std.proofs.Common.{◌≡◌, ◌≢◌, ◌≤◌, ◌==◌, ℕ, suc, Bool, true, false, List, [], ◌∷◌, ◌++◌, length, drop, get_or, Option, Some, IsSome, Ok, refl, sym, ap, subst, ◌∙◌, arith}
use Rattle.std.specs.List.{AllByRecursion, list_any}
use Rattle.std.specs.Option.{option_map}
use Rattle.std.proofs.lemmas.List.{append-nil, get_or-drop, get_or-take}
use Rattle.srv_edge.specs.Records.{joined}
use Rattle.table_model.specs.Bounds.{Bounds}
use Rattle.leaf_grammar.specs.declared.grammar.Space.TheVariants.{Types, Items}
use Rattle.msf_blocks.specs.Edit.{StreamEdit}
use Rattle.info_stream.specs.Text.{with_age}
use Rattle.tpi_stream.specs.declared.reading.Records.{Records}
use Rattle.tpi_stream.specs.Hashes.{hash_text}
use Rattle.tpi_stream.specs.Reading as records
use Rattle.tpi_stream.specs.Written.{record_stream_text}
use Rattle.tpi_stream.proofs.Growing.{length-hash_text}
use Rattle.tpi_stream.proofs.Streams.{stands_behind}
use Rattle.tpi_stream.proofs.WrittenStreams.{length-record_stream_text}
use Rattle.names_table.specs.Text.{names_text}
use Rattle.names_table.proofs.Growing.{length-names_text}
use Rattle.table_model.specs.Tables.{Tables}
use Rattle.type_store.specs.Commit.{Extent, all_from, commit_edits, extent_of, hash_edits, names_edits, record_edits}
use Rattle.type_store.specs.Committed.{GoesOn, HoldsTables, IsBase, IsCommitted, edited_contents, written_streams}
use Rattle.type_store.specs.Holds.{Contents, content_at, is_apart}
use Rattle.type_store.specs.Shape.{HaveRoom, Reaches, record_stream_size, size_at, sizes_of}
use Rattle.type_store.specs.Written.{CanKeep, IsWritten, KeptNumbers}
use Rattle.type_store.proofs.Changes.{AreDistinct, Change, IsFilled, all_edits, changes_keep, changes_make, length-edited_from, size_of}
use Rattle.type_store.proofs.Parts.{apart_there, found, names_apart, not_first, parts}
use Rattle.type_store.proofs.Shaping.{whole_left, whole_parts}
use Rattle.type_store.proofs.Streams.{HasRoom, StandsIn, hash_left, hash_parts, names_left, names_parts, record_left, record_parts, text_stands}

-- ---- the six streams

abbrev pub changes : ℕ → KeptNumbers → Extent → List ℕ → ℕ → Tables → List Change
changes size kept old info age tables =
    record { stream = 1; edits = all_from 1 (with_age info age) 0 ∷ []; text = with_age info age }
    ∷ record { stream = 2; edits = record_edits size old.fresh 2 old.types kept.types tables.types.records; text = record_stream_text kept.types tables.types.records }
    ∷ record { stream = 4; edits = record_edits size old.fresh 4 old.items kept.items tables.items.records; text = record_stream_text kept.items tables.items.records }
    ∷ record { stream = kept.types.hash_stream; edits = hash_edits size old.fresh old.types kept.types tables.types.records; text = hash_text tables.types.records kept.types.buckets }
    ∷ record { stream = kept.items.hash_stream; edits = hash_edits size old.fresh old.items kept.items tables.items.records; text = hash_text tables.items.records kept.items.buckets }
    ∷ record { stream = kept.names_stream; edits = names_edits size old.fresh kept.names_stream old.name_bytes tables.names; text = names_text tables.names.version tables.names.names } ∷ []

pub all_changes : (size : ℕ) (kept : KeptNumbers) (old : Extent) (info : List ℕ) (age : ℕ) (tables : Tables) → commit_edits size kept old info age tables ≡ all_edits (changes size kept old info age tables)
unfolding commit_edits
all_changes size kept old info age tables =
    ap (λ es. all_from 1 (with_age info age) 0
    ∷ (record_edits size old.fresh 2 old.types kept.types tables.types.records
    ++ (record_edits size old.fresh 4 old.items kept.items tables.items.records
    ++ (hash_edits size old.fresh old.types kept.types tables.types.records
    ++ (hash_edits size old.fresh old.items kept.items tables.items.records ++ es)))))
    (sym (append-nil (names_edits size old.fresh kept.names_stream old.name_bytes tables.names)))

pub distinct : (size : ℕ) (kept : KeptNumbers) (old : Extent) (info : List ℕ) (age : ℕ) (tables : Tables) → CanKeep kept info → AreDistinct (changes size kept old info age tables)
distinct size kept old info age tables can =
    let types = can.type_hashes in
    let items = can.item_hashes in
    let names = can.names_stream in (
      ((λ e. omega (arith, e)), ((λ e. omega (arith, e)), ((λ e. omega (arith, e, types)), ((λ e. omega (arith, e, items)), ((λ e. omega (arith, e, names)), tt))))),
      (
        ((λ e. omega (arith, e)), ((λ e. omega (arith, e, types)), ((λ e. omega (arith, e, items)), ((λ e. omega (arith, e, names)), tt)))),
        (
          ((λ e. omega (arith, e, types)), ((λ e. omega (arith, e, items)), ((λ e. omega (arith, e, names)), tt))),
          (((λ e. can.two_hashes (sym e)), ((λ e. can.names_no_types (sym e)), tt)), (((λ e. can.names_no_items (sym e)), tt), (tt, tt))),
        ),
      ),
    )

-- ---- contents on which a commit may be built

-- the streams of a commit in contents that have these tables
pub record Stands (fresh : Bool) (kept : KeptNumbers) (tables : Tables) (contents : Contents) : Type 0 where
  pub info : List ℕ
  pub info_there : content_at contents 1 ≡ Some info
  pub types : List ℕ
  pub types_there : content_at contents 2 ≡ Some types
  pub types_stand : StandsIn tables.types.records types
  pub types_are : fresh ≡ false → types ≡ record_stream_text kept.types tables.types.records
  pub items : List ℕ
  pub items_there : content_at contents 4 ≡ Some items
  pub items_stand : StandsIn tables.items.records items
  pub items_are : fresh ≡ false → items ≡ record_stream_text kept.items tables.items.records
  pub type_hashes : List ℕ
  pub type_hashes_there : content_at contents kept.types.hash_stream ≡ Some type_hashes
  pub type_hashes_are : fresh ≡ false → type_hashes ≡ hash_text tables.types.records kept.types.buckets
  pub item_hashes : List ℕ
  pub item_hashes_there : content_at contents kept.items.hash_stream ≡ Some item_hashes
  pub item_hashes_are : fresh ≡ false → item_hashes ≡ hash_text tables.items.records kept.items.buckets
  pub names : List ℕ
  pub names_there : content_at contents kept.names_stream ≡ Some names
  pub names_are : fresh ≡ false → names ≡ names_text tables.names.version tables.names.names

-- what commits left
pub written_stands : (kept : KeptNumbers) (info : List ℕ) (age : ℕ) (tables : Tables) (contents : Contents) → IsWritten kept info age tables contents → Stands false kept tables contents
written_stands kept info age tables contents is = record {
  info = with_age info age;
  info_there = is.info_stream;
  types = record_stream_text kept.types tables.types.records;
  types_there = is.types;
  types_stand = text_stands kept.types tables.types.records;
  types_are = λ e. refl;
  items = record_stream_text kept.items tables.items.records;
  items_there = is.items;
  items_stand = text_stands kept.items tables.items.records;
  items_are = λ e. refl;
  type_hashes = hash_text tables.types.records kept.types.buckets;
  type_hashes_there = is.type_hashes;
  type_hashes_are = λ e. refl;
  item_hashes = hash_text tables.items.records kept.items.buckets;
  item_hashes_there = is.item_hashes;
  item_hashes_are = λ e. refl;
  names = names_text tables.names.version tables.names.names;
  names_there = is.names;
  names_are = λ e. refl;
}

-- what was opened
hashes_there : (contents : Contents) (others : List ℕ) (i n : ℕ) → i ≡ n → is_apart contents others i ≡ true → (stream : List ℕ) × (content_at contents n ≡ Some stream)
hashes_there contents others i n is apart = let t = apart_there contents others i apart in (t.0, ap (content_at contents) (sym is) ∙ t.1)

records_stand : (max_records max_bytes : ℕ) (stream : List ℕ) (r : Records) (list : List (List ℕ)) → records.reading max_records max_bytes stream ≡ Ok r → r.list ≡ list → StandsIn list stream
records_stand max_records max_bytes stream r list read is =
    let b = stands_behind max_records max_bytes stream r read in
    subst (λ rs. StandsIn rs stream) is (record {
      long = b.0;
      bytes = λ k lt. sym (get_or-drop 56 stream k 0) ∙ sym (get_or-take (length (joined r.list)) (drop 56 stream) k 0 lt) ∙ ap (λ s. get_or s k 0) (sym b.1);
    })

pub held_stands : (limits : Bounds) (kept : KeptNumbers) (info : List ℕ) (age : ℕ) (tables : Tables) (contents : Contents) → HoldsTables limits kept info age tables contents → Stands true kept tables contents
held_stands limits kept info age tables contents h =
    let held = h.held in
    let p = parts limits contents held h.holds in
    let types = found limits contents Types [] held.types p.types in
    let items = found limits contents Items (held.types.header.hash_stream ∷ []) held.items p.items in
    let type_hashes = hashes_there contents [] held.types.header.hash_stream kept.types.hash_stream (ap (λ (k : KeptNumbers). k.types.hash_stream) h.kept_are) types.apart in
    let item_hashes = hashes_there contents (held.types.header.hash_stream ∷ []) held.items.header.hash_stream kept.items.hash_stream (ap (λ (k : KeptNumbers). k.items.hash_stream) h.kept_are) items.apart in
    let others = held.types.header.hash_stream ∷ held.items.header.hash_stream ∷ [] in
    let names = hashes_there contents others held.names_stream kept.names_stream (ap (λ (k : KeptNumbers). k.names_stream) h.kept_are) (names_apart limits contents others held.names_stream held.names p.names) in
    record {
      info = info;
      info_there = h.info_stream;
      types = types.stream;
      types_there = types.content;
      types_stand = records_stand limits.records limits.bytes types.stream held.types tables.types.records types.read (ap (λ (t : Tables). t.types.records) h.tables_are);
      types_are = λ e. absurd cc;
      items = items.stream;
      items_there = items.content;
      items_stand = records_stand limits.records limits.bytes items.stream held.items tables.items.records items.read (ap (λ (t : Tables). t.items.records) h.tables_are);
      items_are = λ e. absurd cc;
      type_hashes = type_hashes.0;
      type_hashes_there = type_hashes.1;
      type_hashes_are = λ e. absurd cc;
      item_hashes = item_hashes.0;
      item_hashes_there = item_hashes.1;
      item_hashes_are = λ e. absurd cc;
      names = names.0;
      names_there = names.1;
      names_are = λ e. absurd cc;
    }

pub base_stands : (fresh : Bool) (limits : Bounds) (kept : KeptNumbers) (info : List ℕ) (first_age age : ℕ) (first tables : Tables) (opened contents : Contents) → HoldsTables limits kept info first_age first opened
    → IsBase fresh kept info age first opened tables contents → Stands fresh kept tables contents
base_stands true limits kept info first_age age first tables opened contents h base =
    let S = λ (t : Tables) (c : Contents). Stands true kept t c in
    subst (λ t. S t contents) (sym base.1) (subst (λ c. S first c) (sym base.0) (held_stands limits kept info first_age first opened h))
base_stands false limits kept info first_age age first tables opened contents h base = written_stands kept info age tables contents base.written

-- ---- the commit

room_of : (fresh : Bool) (n old : ℕ) → n ≤ old → (fresh ≡ false → old ≡ n) → HasRoom fresh n old
room_of true n old le exact = le
room_of false n old le exact = exact refl

edited_count : (edits : List StreamEdit) (contents : Contents) (info : List ℕ) → content_at contents 1 ≡ Some info → length (edited_contents edits contents) ≡ length contents
edited_count edits [] info there = absurd cc
edited_count edits (x ∷ contents) info there = ap suc (length-edited_from edits 1 contents)

module _ (size : ℕ) (fresh : Bool) (kept : KeptNumbers) (info : List ℕ) (age : ℕ) (old tables : Tables) (contents : Contents) (least : 56 ≤ size) (can : CanKeep kept info) (on : GoesOn old tables) (s : Stands fresh kept old contents) where
  abbrev its_changes : List Change
  its_changes = changes size kept (extent_of fresh old) info age tables

  filled : AllByRecursion (IsFilled size contents) its_changes
  filled =
      let names_are : fresh ≡ false → s.names ≡ names_text tables.names.version old.names.names = λ e. s.names_are e ∙ ap (λ v. names_text v old.names.names) (sym on.version) in (
        record { old = s.info; there = s.info_there; not_first = omega arith; parts = whole_parts size 1 (length s.info) (with_age info age); left = whole_left 1 s.info (with_age info age) },
        (
          record {
            old = s.types;
            there = s.types_there;
            not_first = omega arith;
            parts = record_parts size 2 (length s.types) fresh kept.types old.types.records tables.types.records on.extends.types (room_of fresh _ (length s.types) s.types_stand.long (λ e. ap length (s.types_are e) ∙ length-record_stream_text kept.types old.types.records));
            left = record_left size 2 fresh kept.types old.types.records tables.types.records s.types least on.extends.types s.types_stand s.types_are;
          },
          (
            record {
              old = s.items;
              there = s.items_there;
              not_first = omega arith;
              parts = record_parts size 4 (length s.items) fresh kept.items old.items.records tables.items.records on.extends.items (room_of fresh _ (length s.items) s.items_stand.long (λ e. ap length (s.items_are e) ∙ length-record_stream_text kept.items old.items.records));
              left = record_left size 4 fresh kept.items old.items.records tables.items.records s.items least on.extends.items s.items_stand s.items_are;
            },
            (
              record {
                old = s.type_hashes;
                there = s.type_hashes_there;
                not_first = omega (arith, can.type_hashes);
                parts = hash_parts size (length s.type_hashes) fresh kept.types old.types.records tables.types.records on.extends.types (λ e. ap length (s.type_hashes_are e) ∙ length-hash_text kept.types.buckets old.types.records);
                left = hash_left size fresh kept.types old.types.records tables.types.records s.type_hashes on.extends.types s.type_hashes_are;
              },
              (
                record {
                  old = s.item_hashes;
                  there = s.item_hashes_there;
                  not_first = omega (arith, can.item_hashes);
                  parts = hash_parts size (length s.item_hashes) fresh kept.items old.items.records tables.items.records on.extends.items (λ e. ap length (s.item_hashes_are e) ∙ length-hash_text kept.items.buckets old.items.records);
                  left = hash_left size fresh kept.items old.items.records tables.items.records s.item_hashes on.extends.items s.item_hashes_are;
                },
                (
                  record {
                    old = s.names;
                    there = s.names_there;
                    not_first = omega (arith, can.names_stream);
                    parts = names_parts size kept.names_stream (length s.names) fresh old.names.names tables.names on.extends.names (λ e. ap length (s.names_are e) ∙ length-names_text old.names.version old.names.names);
                    left = names_left size kept.names_stream fresh old.names.names tables.names s.names (omega (arith, least)) on.extends.names names_are;
                  },
                  tt,
                ),
              ),
            ),
          ),
        ),
      )

  abbrev its_edits : List StreamEdit
  its_edits = all_edits its_changes

  its_new : Contents
  its_new = edited_contents its_edits contents

  not_named : (i : ℕ) → list_any (λ stream. stream == i) (written_streams kept) ≡ false → AllByRecursion (λ (c : Change). c.stream ≢ i) its_changes
  not_named i none =
      let a = not_first 1 i (2 ∷ 4 ∷ kept.types.hash_stream ∷ kept.items.hash_stream ∷ kept.names_stream ∷ []) none in
      let b = not_first 2 i (4 ∷ kept.types.hash_stream ∷ kept.items.hash_stream ∷ kept.names_stream ∷ []) a.1 in
      let c = not_first 4 i (kept.types.hash_stream ∷ kept.items.hash_stream ∷ kept.names_stream ∷ []) b.1 in
      let d = not_first kept.types.hash_stream i (kept.items.hash_stream ∷ kept.names_stream ∷ []) c.1 in
      let e = not_first kept.items.hash_stream i (kept.names_stream ∷ []) d.1 in
      let f = not_first kept.names_stream i [] e.1 in
      (a.0, (b.0, (c.0, (d.0, (e.0, (f.0, tt))))))

  made : IsCommitted kept info age tables contents (edited_contents its_edits contents)
  made =
      let apart = distinct size kept (extent_of fresh old) info age tables can in
      let all = changes_make size contents its_changes apart filled in
      record {
        written = record { info_stream = all.0; types = all.1.0; items = all.1.1.0; type_hashes = all.1.1.1.0; item_hashes = all.1.1.1.1.0; names = all.1.1.1.1.1.0 };
        first = refl;
        count = edited_count its_edits contents s.info s.info_there;
        others = λ i le none. changes_keep size contents its_changes i apart filled le (not_named i none);
      }

  pub commit_leaves : IsCommitted kept info age tables contents (edited_contents (commit_edits size kept (extent_of fresh old) info age tables) contents)
  commit_leaves = subst (λ es. IsCommitted kept info age tables contents (edited_contents es contents)) (sym (all_changes size kept (extent_of fresh old) info age tables)) made

-- ---- commits in a row

pub committed_again : (kept : KeptNumbers) (info : List ℕ) (age next : ℕ) (tables more : Tables) (opened contents new : Contents) → IsCommitted kept info age tables opened contents → IsCommitted kept info next more contents new
    → IsCommitted kept info next more opened new
committed_again kept info age next tables more opened contents new one two = record {
  written = two.written;
  first = two.first;
  count = two.count ∙ one.count;
  others = λ i le none. two.others i le none ∙ one.others i le none;
}

pub base_goes_on : (fresh : Bool) (kept : KeptNumbers) (info : List ℕ) (age next : ℕ) (first old tables : Tables) (opened contents new : Contents) → IsBase fresh kept info age first opened old contents → IsCommitted kept info next tables contents new
    → IsCommitted kept info next tables opened new
base_goes_on true kept info age next first old tables opened contents new base is = subst (λ c. IsCommitted kept info next tables c new) base.0 is
base_goes_on false kept info age next first old tables opened contents new base is = committed_again kept info age next old tables opened contents new base is

-- ---- the sizes of what was opened

reaches : (contents : Contents) (i : ℕ) (records : List (List ℕ)) (stream : List ℕ) → content_at contents i ≡ Some stream → StandsIn records stream → Reaches (size_at (sizes_of contents) i) (record_stream_size records)
reaches contents i records stream there stands = subst (λ o. Reaches o (record_stream_size records)) (sym (size_of contents i ∙ ap (option_map (λ (s : List ℕ). length s)) there)) stands.long

is_there : (contents : Contents) (i : ℕ) (stream : List ℕ) → content_at contents i ≡ Some stream → IsSome (size_at (sizes_of contents) i)
is_there contents i stream there = let There = λ (o : Option ℕ). IsSome o in subst There (sym (size_of contents i ∙ ap (option_map (λ (s : List ℕ). length s)) there)) refl

pub held_room : (limits : Bounds) (kept : KeptNumbers) (info : List ℕ) (age : ℕ) (tables : Tables) (contents : Contents) → HoldsTables limits kept info age tables contents → HaveRoom kept info tables (sizes_of contents)
held_room limits kept info age tables contents h =
    let s = held_stands limits kept info age tables contents h in
    record {
      info_stream = size_of contents 1 ∙ ap (option_map (λ (s : List ℕ). length s)) h.info_stream;
      types = reaches contents 2 tables.types.records s.types s.types_there s.types_stand;
      items = reaches contents 4 tables.items.records s.items s.items_there s.items_stand;
      type_hashes = is_there contents kept.types.hash_stream s.type_hashes s.type_hashes_there;
      item_hashes = is_there contents kept.items.hash_stream s.item_hashes s.item_hashes_there;
      names = is_there contents kept.names_stream s.names s.names_there;
    }
