-- What is known of all streams of an opened file, from what is known of each.
use Rattle.std.proofs.Common.{◌≡◌, ◌≢◌, ◌≤◌, ◌==◌, ◌&&◌, ◌||◌, ℕ, zero, suc, Bool, true, false, not, nat_le, List, [], ◌∷◌, length, Option, None, Some, refl, sym, ap, subst, ◌∙◌, arith, eqb}
use Rattle.std.proofs.lemmas.Bool.{eqb-false, leb-true}
use Rattle.std.specs.Prelude.{IsSome, is_none}
use Rattle.std.specs.List.{list_any}
use Rattle.std.specs.Option.{option_map}
use Rattle.leaf_grammar.specs.declared.grammar.Space.TheVariants.{Types, Items}
use Rattle.stream_directory.specs.Directory.{StreamBlocks, stream_at}
use Rattle.tpi_stream.specs.declared.header.Header.{Header}
use Rattle.tpi_stream.specs.declared.header.Kept.{Kept}
use Rattle.record_table.specs.Table.{Table}
use Rattle.committer.specs.Stored.{File, newest}
use Rattle.tpi_stream.specs.Stream.{IsHeader}
use Rattle.tpi_stream.specs.Written.{CanBeKept, kept_of}
use Rattle.names_table.specs.Names.{Names}
use Rattle.table_model.specs.Bounds.{Bounds, bounded_table}
use Rattle.type_store.specs.Opening.{AreStreams, HasInfo, HasNames, HasRecords, is_apart_in, size_in}
use Rattle.type_store.proofs.Chain.{numbers_kept, tables_with}
use Rattle.type_store.specs.Shape.{Reaches, size_at, sizes_in}

and_left : (a b : Bool) → (a && b) ≡ true → a ≡ true
and_left true b is = refl
and_left false b is = absurd cc

and_right : (a b : Bool) → (a && b) ≡ true → b ≡ true
and_right true b is = is
and_right false b is = absurd cc

not_false : (a : Bool) → not a ≡ true → a ≡ false
not_false true is = absurd cc
not_false false is = refl

-- a stream that stands apart
record Apart (streams : List (Option StreamBlocks)) (others : List ℕ) (i : ℕ) : Type 0 where
  pub behind : 5 ≤ i
  pub there : is_none (stream_at streams i) ≡ false
  pub none : list_any (λ other. other == i) others ≡ false

apart : (streams : List (Option StreamBlocks)) (others : List ℕ) (i : ℕ) → is_apart_in streams others i ≡ true → Apart streams others i
apart streams others i is =
    let rest = not (is_none (stream_at streams i)) && not (list_any (λ other. other == i) others) in
    let both = and_right (nat_le 5 i) rest is in
    record {
      behind = leb-true 5 i (and_left (nat_le 5 i) rest is);
      there = not_false _ (and_left (not (is_none (stream_at streams i))) _ both);
      none = not_false _ (and_right (not (is_none (stream_at streams i))) _ both);
    }

not_first : (a i : ℕ) (others : List ℕ) → list_any (λ other. other == i) (a ∷ others) ≡ false → (a ≢ i) × (list_any (λ other. other == i) others ≡ false)
not_first a i others e = go (eqb a i) refl e
  where
    go : (b : Bool) → eqb a i ≡ b → (b || list_any (λ other. other == i) others) ≡ false → (a ≢ i) × (list_any (λ other. other == i) others ≡ false)
    go true is e = absurd cc
    go false is e = (eqb-false a i is, e)

can : (h : Header) → IsHeader h → CanBeKept (kept_of h)
can h is = record { hash_stream = is.hash_stream; aux_stream = is.aux_stream; least_buckets = is.least_buckets; most_buckets = is.most_buckets }

-- ---- sizes

pub size_is : (streams : List (Option StreamBlocks)) (i : ℕ) → size_at (sizes_in streams) i ≡ size_in streams i
size_is [] zero = refl
size_is [] (suc i) = refl
size_is (x ∷ streams) zero = refl
size_is (x ∷ streams) (suc i) = size_is streams i

is_there : (x : Option StreamBlocks) → is_none x ≡ false → IsSome (option_map (λ (s : StreamBlocks). s.size) x)
is_there None is = absurd cc
is_there (Some s) is = refl

has_stream : (streams : List (Option StreamBlocks)) (i : ℕ) → is_none (stream_at streams i) ≡ false → IsSome (size_at (sizes_in streams) i)
has_stream streams i is = subst (λ (o : Option ℕ). IsSome o) (sym (size_is streams i)) (is_there (stream_at streams i) is)

reaches : (streams : List (Option StreamBlocks)) (i size bytes : ℕ) → size_in streams i ≡ Some size → bytes ≤ size → Reaches (size_at (sizes_in streams) i) bytes
reaches streams i size bytes is le = subst (λ (o : Option ℕ). Reaches o bytes) (sym (size_is streams i ∙ is)) le

-- ---- all of them

pub gathered : (bounds : Bounds) (streams : List (Option StreamBlocks)) (info : List ℕ) (number age : ℕ) (types items : Header) (type_list item_list : List (List ℕ)) (names : Names) → HasInfo streams info number age
    → HasRecords bounds streams Types [] types type_list → HasRecords bounds streams Items (types.hash_stream ∷ []) items item_list → HasNames bounds streams (types.hash_stream ∷ items.hash_stream ∷ []) number names
    → AreStreams bounds streams (record { types = kept_of types; items = kept_of items; names_stream = number }) info age
    (record { types = bounded_table bounds type_list; items = bounded_table bounds item_list; names = names })
gathered bounds streams info number age types items type_list item_list names i t s n =
    let type_apart = apart streams [] types.hash_stream t.apart in
    let item_apart = apart streams (types.hash_stream ∷ []) items.hash_stream s.apart in
    let name_apart = apart streams (types.hash_stream ∷ items.hash_stream ∷ []) number n.apart in
    let no_types = not_first types.hash_stream number (items.hash_stream ∷ []) name_apart.none in
    record {
      can = record {
        types = can types t.header;
        items = can items s.header;
        names = i.names;
        type_hashes = type_apart.behind;
        item_hashes = item_apart.behind;
        names_stream = name_apart.behind;
        two_hashes = (not_first types.hash_stream items.hash_stream [] item_apart.none).0;
        names_no_types = no_types.0;
        names_no_items = (not_first items.hash_stream number [] no_types.1).0;
      };
      age_is = i.age_is;
      small = i.small;
      within = record { types = t.kept; items = s.kept; names = n.kept; type_limits = refl; item_limits = refl; name_limit = n.limit };
      room = record {
        info_stream = size_is streams 1 ∙ i.size;
        types = reaches streams 2 t.size _ t.size_is t.long;
        items = reaches streams 4 s.size _ s.size_is s.long;
        type_hashes = has_stream streams types.hash_stream type_apart.there;
        item_hashes = has_stream streams items.hash_stream item_apart.there;
        names = has_stream streams number name_apart.there;
      };
    }

-- the same of streams that were read one after another, with the program's values
pub gathered_on : (bounds : Bounds) (file one two three : File) (info : List ℕ) (number age : ℕ) (types items : Header) (type_kept item_kept : Kept) (type_table item_table : Table) (names : Names) (first second : ℕ)
    → one ≡ file → two ≡ file → three ≡ file → first ≡ types.hash_stream → second ≡ items.hash_stream → type_kept ≡ kept_of types → item_kept ≡ kept_of items
    → type_table ≡ bounded_table bounds type_table.records → item_table ≡ bounded_table bounds item_table.records → HasInfo (newest file).directory info number age
    → HasRecords bounds (newest one).directory Types [] types type_table.records → HasRecords bounds (newest two).directory Items (first ∷ []) items item_table.records
    → HasNames bounds (newest three).directory (first ∷ second ∷ []) number names
    → AreStreams bounds (newest file).directory (numbers_kept type_kept item_kept number) info age (tables_with type_table item_table names)
gathered_on bounds file one two three info number age types items type_kept item_kept type_table item_table names first second same then last f s tk ik tt' it i t r n =
    let streams = (newest file).directory in
    let t' = subst (λ (x : File). HasRecords bounds (newest x).directory Types [] types type_table.records) same t in
    let r' = subst (λ k. HasRecords bounds streams Items (k ∷ []) items item_table.records) f (subst (λ (x : File). HasRecords bounds (newest x).directory Items (first ∷ []) items item_table.records) then r) in
    let n' = subst (λ k. HasNames bounds streams (types.hash_stream ∷ k ∷ []) number names) s
    (subst (λ k. HasNames bounds streams (k ∷ second ∷ []) number names) f (subst (λ (x : File). HasNames bounds (newest x).directory (first ∷ second ∷ []) number names) last n)) in
    let all = gathered bounds streams info number age types items type_table.records item_table.records names i t' r' n' in
    subst (λ (k : Kept). AreStreams bounds streams (numbers_kept k item_kept number) info age (tables_with type_table item_table names)) (sym tk)
    (subst (λ (k : Kept). AreStreams bounds streams (numbers_kept (kept_of types) k number) info age (tables_with type_table item_table names)) (sym ik)
    (subst (λ (x : Table). AreStreams bounds streams (numbers_kept (kept_of types) (kept_of items) number) info age (tables_with x item_table names)) (sym tt')
    (subst (λ (x : Table). AreStreams bounds streams (numbers_kept (kept_of types) (kept_of items) number) info age (tables_with (bounded_table bounds type_table.records) x names)) (sym it) all)))
