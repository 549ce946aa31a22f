-- The sizes of the streams that commits leave, and that their edits may be made of streams of such sizes.
use Rattle.std.proofs.Common.{◌≡◌, ◌≢◌, ◌≤◌, ◌<◌, ◌==◌, ℕ, zero, suc, false, List, [], ◌∷◌, length, Option, None, Some, refl, sym, ap, subst, ◌∙◌, inl, inr, arith, codes}
use Rattle.std.specs.List.{list_any}
use Rattle.std.specs.Option.{option_map}
use Rattle.std.proofs.lemmas.Bool.{cases_eq, eq-eqb, ne_eqb}
use Rattle.std.proofs.lemmas.List.{ext_get_or}
use Rattle.std.proofs.lemmas.List.FromFn.{get_or-map-range_with_len, length-map-range_with_len}
use Rattle.info_stream.proofs.Ages.{length-with_age}
use Rattle.tpi_stream.proofs.Growing.{length-hash_text}
use Rattle.tpi_stream.proofs.WrittenStreams.{length-record_stream_text}
use Rattle.names_table.proofs.Growing.{length-names_text}
use Rattle.table_model.specs.Tables.{Tables}
use Rattle.type_store.specs.Committed.{IsCommitted, written_streams}
use Rattle.type_store.specs.Holds.{Contents, content_at}
use Rattle.type_store.specs.Shape.{Shape, Sizes, hash_stream_size, names_stream_size, shape_of, size_at, sizes_of, written_size, written_sizes}
use Rattle.type_store.specs.Written.{CanKeep, KeptNumbers}
use Rattle.type_store.proofs.Changes.{size_of}
use Rattle.type_store.proofs.Named.{named_long}

-- ---- streams by their numbers

-- a stream that no commit writes
pub record IsOther (kept : KeptNumbers) (i : ℕ) : Type 0 where
  pub n0 : i ≢ 0
  pub n1 : i ≢ 1
  pub n2 : i ≢ 2
  pub n4 : i ≢ 4
  pub types : i ≢ kept.types.hash_stream
  pub items : i ≢ kept.items.hash_stream
  pub names : i ≢ kept.names_stream

pub positive : (i : ℕ) → i ≢ 0 → 1 ≤ i
positive zero ne = absurd (ne refl)
positive (suc i) ne = omega arith

-- what holds of each stream of a commit, and of each other
pub by_number : (kept : KeptNumbers) (P : ℕ → Type 0) → P 0 → P 1 → P 2 → P 4 → P kept.types.hash_stream → P kept.items.hash_stream → P kept.names_stream → ((i : ℕ) → IsOther kept i → P i) → (i : ℕ) → P i
by_number kept P p0 p1 p2 p4 types items names other i =
    elim (cases_eq i 0) [
      | inl e ↦ subst P (sym e) p0
      | inr n0 ↦
          elim (cases_eq i 1) [
            | inl e ↦ subst P (sym e) p1
            | inr n1 ↦
                elim (cases_eq i 2) [
                  | inl e ↦ subst P (sym e) p2
                  | inr n2 ↦
                      elim (cases_eq i 4) [
                        | inl e ↦ subst P (sym e) p4
                        | inr n4 ↦
                            elim (cases_eq i kept.types.hash_stream) [
                              | inl e ↦ subst P (sym e) types
                              | inr nt ↦
                                  elim (cases_eq i kept.items.hash_stream) [
                                    | inl e ↦ subst P (sym e) items
                                    | inr ni ↦ elim (cases_eq i kept.names_stream) [ inl e ↦ subst P (sym e) names | inr nn ↦ other i (record { n0 = n0; n1 = n1; n2 = n2; n4 = n4; types = nt; items = ni; names = nn }) ]
                                  ]
                            ]
                      ]
                ]
          ]
    ]

-- ---- the written sizes, one by one

pub length-written_sizes : (shape : Shape) (tables : Tables) → length (written_sizes shape tables) ≡ length shape.sizes
unfolding written_sizes
length-written_sizes shape tables = length-map-range_with_len (λ i. written_size shape tables i (size_at shape.sizes i)) 0 (length shape.sizes)

pub written_at : (shape : Shape) (tables : Tables) (i : ℕ) → i < length shape.sizes → size_at (written_sizes shape tables) i ≡ written_size shape tables i (size_at shape.sizes i)
unfolding written_sizes
written_at shape tables i lt = get_or-map-range_with_len (λ i. written_size shape tables i (size_at shape.sizes i)) 0 (length shape.sizes) i i None lt (omega arith)

-- a stream that is there is one of the list
pub there_below : (sizes : Sizes) (i n : ℕ) → size_at sizes i ≡ Some n → i < length sizes
there_below [] i n is = absurd cc
there_below (x ∷ sizes) zero n is = omega arith
there_below (x ∷ sizes) (suc i) n is = omega (arith, there_below sizes i n is)

module _ (block blocks : ℕ) (sizes : Sizes) (kept : KeptNumbers) (info : List ℕ) (can : CanKeep kept info) (tables : Tables) (o : Option ℕ) where
  abbrev shape : Shape
  shape = shape_of block blocks sizes kept

  pub written_type_hashes : written_size shape tables kept.types.hash_stream o ≡ Some (hash_stream_size tables.types.records)
  written_type_hashes =
      let h = kept.types.hash_stream in
      let le = can.type_hashes in
      rw (ne_eqb h 0 (λ e. omega (arith, e, le)), ne_eqb h 2 (λ e. omega (arith, e, le)), ne_eqb h 4 (λ e. omega (arith, e, le)), eq-eqb h h refl) refl

  pub written_item_hashes : written_size shape tables kept.items.hash_stream o ≡ Some (hash_stream_size tables.items.records)
  written_item_hashes =
      let h = kept.items.hash_stream in
      let le = can.item_hashes in
      rw (ne_eqb h 0 (λ e. omega (arith, e, le)), ne_eqb h 2 (λ e. omega (arith, e, le)), ne_eqb h 4 (λ e. omega (arith, e, le)), ne_eqb h kept.types.hash_stream (λ e. can.two_hashes (sym e)), eq-eqb h h refl) refl

  pub written_names : written_size shape tables kept.names_stream o ≡ Some (names_stream_size tables.names.names)
  written_names =
      let n = kept.names_stream in
      let le = can.names_stream in
      rw (
        ne_eqb n 0 (λ e. omega (arith, e, le)),
        ne_eqb n 2 (λ e. omega (arith, e, le)),
        ne_eqb n 4 (λ e. omega (arith, e, le)),
        ne_eqb n kept.types.hash_stream (λ e. can.names_no_types (sym e)),
        ne_eqb n kept.items.hash_stream (λ e. can.names_no_items (sym e)),
        eq-eqb n n refl,
      ) refl

  pub written_info : written_size shape tables 1 o ≡ o
  written_info =
      rw (
        ne_eqb 1 kept.types.hash_stream (λ e. let le = can.type_hashes in omega (arith, e, le)),
        ne_eqb 1 kept.items.hash_stream (λ e. let le = can.item_hashes in omega (arith, e, le)),
        ne_eqb 1 kept.names_stream (λ e. let le = can.names_stream in omega (arith, e, le)),
      ) refl

  pub written_other : (i : ℕ) → IsOther kept i → written_size shape tables i o ≡ o
  written_other i is = rw (ne_eqb i 0 is.n0, ne_eqb i 2 is.n2, ne_eqb i 4 is.n4, ne_eqb i kept.types.hash_stream is.types, ne_eqb i kept.items.hash_stream is.items, ne_eqb i kept.names_stream is.names) refl

-- ---- the sizes of contents

abbrev size_in_bytes : Option (List ℕ) → Option ℕ
size_in_bytes content = option_map (λ (stream : List ℕ). length stream) content

length-sizes_of : (contents : Contents) → length (sizes_of contents) ≡ length contents
length-sizes_of [] = refl
length-sizes_of (x ∷ contents) = ap suc (length-sizes_of contents)

none_of_written : (kept : KeptNumbers) (i : ℕ) → IsOther kept i → list_any (λ stream. stream == i) (written_streams kept) ≡ false
none_of_written kept i o =
    rw (
      ne_eqb 1 i (λ x. o.n1 (sym x)),
      ne_eqb 2 i (λ x. o.n2 (sym x)),
      ne_eqb 4 i (λ x. o.n4 (sym x)),
      ne_eqb kept.types.hash_stream i (λ x. o.types (sym x)),
      ne_eqb kept.items.hash_stream i (λ x. o.items (sym x)),
      ne_eqb kept.names_stream i (λ x. o.names (sym x)),
    ) refl

module _ (block blocks : ℕ) (kept : KeptNumbers) (info : List ℕ) (age : ℕ) (tables : Tables) (opened new : Contents) (can : CanKeep kept info) (there : content_at opened 1 ≡ Some info) (is : IsCommitted kept info age tables opened new) where
  abbrev its_shape : Shape
  its_shape = shape_of block blocks (sizes_of opened) kept

  abbrev HasSize : ℕ → Type 0
  HasSize i = size_in_bytes (content_at new i) ≡ written_size its_shape tables i (size_in_bytes (content_at opened i))

  one_size : (i : ℕ) → HasSize i
  one_size =
      let was = λ (i : ℕ). size_in_bytes (content_at opened i) in
      let info_same : HasSize 1 =
      ap size_in_bytes is.written.info_stream ∙ ap Some (length-with_age info age (named_long info (codes "/names") kept.names_stream can.names)) ∙ sym (ap size_in_bytes there)
      ∙ sym (written_info block blocks (sizes_of opened) kept info can tables (was 1)) in
      by_number kept HasSize (ap size_in_bytes is.first) info_same (ap size_in_bytes is.written.types ∙ ap Some (length-record_stream_text kept.types tables.types.records))
      (ap size_in_bytes is.written.items ∙ ap Some (length-record_stream_text kept.items tables.items.records))
      (ap size_in_bytes is.written.type_hashes ∙ ap Some (length-hash_text kept.types.buckets tables.types.records) ∙ sym (written_type_hashes block blocks (sizes_of opened) kept info can tables (was kept.types.hash_stream)))
      (ap size_in_bytes is.written.item_hashes ∙ ap Some (length-hash_text kept.items.buckets tables.items.records) ∙ sym (written_item_hashes block blocks (sizes_of opened) kept info can tables (was kept.items.hash_stream)))
      (ap size_in_bytes is.written.names ∙ ap Some (length-names_text tables.names.version tables.names.names) ∙ sym (written_names block blocks (sizes_of opened) kept info can tables (was kept.names_stream)))
      (λ i o. ap size_in_bytes (is.others i (positive i o.n0) (none_of_written kept i o)) ∙ sym (written_other block blocks (sizes_of opened) kept info can tables (was i) i o))

  pub committed_sizes : sizes_of new ≡ written_sizes its_shape tables
  committed_sizes =
      let n : length (sizes_of new) ≡ length (sizes_of opened) = length-sizes_of new ∙ is.count ∙ sym (length-sizes_of opened) in
      ext_get_or None (sizes_of new) (written_sizes its_shape tables) (n ∙ sym (length-written_sizes its_shape tables))
      (λ i lt.
      size_of new i ∙ one_size i ∙ ap (written_size its_shape tables i) (sym (size_of opened i)) ∙ sym (written_at its_shape tables i (omega (arith, lt, n))))
