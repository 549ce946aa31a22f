-- The edits of a commit leave out each block that the commit does not write.
use Rattle.std.proofs.Common.{◌≡◌, ◌≤◌, ◌<◌, ◌+◌, ◌*◌, ◌/◌, ◌==◌, ◌&&◌, ◌||◌, ℕ, Bool, true, false, cond, List, [], ◌∷◌, ◌++◌, length, take, drop, Option, None, Some, refl, sym, ap, subst, ◌∙◌, inl, inr, arith, eqb, leb, ltb}
use Rattle.std.specs.Option.{option_or}
use Rattle.std.proofs.lemmas.Bool.{and_parts, cases_Bool, cases_lt, eq-eqb, eqb-true, le-leb, leb-true, ltb-true, ne_eqb}
use Rattle.std.proofs.lemmas.List.{length-drop, length-take}
use Rattle.std.proofs.lemmas.List.Folds.{find-append}
use Rattle.std.proofs.lemmas.Nat.{mul-le}
use Rattle.std.proofs.Math.Nat.{div-eq_of_lt}
use Rattle.info_stream.specs.Text.{with_age}
use Rattle.msf_blocks.specs.Blocks.{IsBlockSize}
use Rattle.msf_blocks.specs.Edit.{StreamEdit}
use Rattle.msf_blocks.proofs.Sizes.{sized}
use Rattle.msf_image.specs.declared.image.Image.{Image}
use Rattle.stream_directory.specs.Directory.{StreamBlocks, stream_at}
use Rattle.cow_streams.specs.Edits.{edit_at, has_byte}
use Rattle.cow_streams.specs.Plan.{IsPlan, SharesBlocks}
use Rattle.cow_streams.specs.Planned.{Planned}
use Rattle.names_table.specs.Names.{Names, bytes_of}
use Rattle.names_table.specs.Text.{names_text}
use Rattle.names_table.specs.declared.read.TheConstants as names
use Rattle.srv_edge.specs.Records.{joined}
use Rattle.table_model.specs.Tables.{Tables}
use Rattle.tpi_stream.specs.Hashes.{hash_text}
use Rattle.tpi_stream.specs.Written.{record_stream_text}
use Rattle.tpi_stream.specs.declared.header.Kept.{Kept}
use Rattle.tpi_stream.specs.declared.header.TheConstants.{HEADER_BYTES, KEY_BYTES}
use Rattle.type_store.specs.Commit.{all_from, block_start, commit_edits, extent_of, first_and_from, first_block, hash_edits, names_edits, record_edits, record_extent}
use Rattle.type_store.specs.Planning.{Commit, MayCommit, edits_of}
use Rattle.type_store.specs.Shape.{Shape, Sizes, shape_of}
use Rattle.type_store.specs.Sharing.{KeepsInner, Shares, SharesBut, first_or_from, writes_block, writes_hashes, writes_names, writes_records}
use Rattle.type_store.specs.Written.{KeptNumbers}

-- ---- edits that have not a byte

abbrev Misses : ℕ → ℕ → List StreamEdit → Type 0
Misses i j edits = edit_at edits i j ≡ None

neither : (a b : Bool) → (a || b) ≡ false → (a ≡ false) × (b ≡ false)
neither true b none = absurd cc
neither false b none = (refl, none)

not_both : (a b : Bool) → (a && b) ≡ false → a ≡ true → b ≡ false
not_both true b none is = none
not_both false b none is = absurd cc

has_not : (i j : ℕ) (e : StreamEdit) → (e.stream ≡ i → e.at ≤ j → j < e.at + length e.bytes → ⊥) → has_byte i j e ≡ false
has_not i j e never =
    elim (cases_Bool (has_byte i j e)) [
      | inl there ↦ absurd (
          let of = and_parts (eqb e.stream i) (leb e.at j && ltb j (e.at + length e.bytes)) there in
          let at = and_parts (leb e.at j) (ltb j (e.at + length e.bytes)) of.1 in
          never (eqb-true e.stream i of.0) (leb-true e.at j at.0) (ltb-true j (e.at + length e.bytes) at.1))
      | inr away ↦ away
    ]

misses_one : (i j : ℕ) (e : StreamEdit) (edits : List StreamEdit) → (e.stream ≡ i → e.at ≤ j → j < e.at + length e.bytes → ⊥) → Misses i j edits → Misses i j (e ∷ edits)
misses_one i j e edits never rest = ap (λ t. cond t (Some e) (edit_at edits i j)) (has_not i j e never) ∙ rest

misses_all : (i j : ℕ) (xs ys : List StreamEdit) → Misses i j xs → Misses i j ys → Misses i j (xs ++ ys)
misses_all i j xs ys x y = find-append (has_byte i j) xs ys ∙ ap (λ o. option_or o (edit_at ys i j)) x ∙ y

chosen : {X : Type 0} (P : X → Type 0) (t : Bool) (x y : X) → (t ≡ true → P x) → (t ≡ false → P y) → P (cond t x y)
chosen P true x y is_x is_y = is_x refl
chosen P false x y is_x is_y = is_y refl

-- ---- parts of a text

module _ (size i k : ℕ) (some : 1 ≤ size) where
  abbrev j : ℕ
  j = k * size

  -- only the first block has a byte of the first
  is_first : (n : ℕ) → n ≤ size → j < n → k ≡ 0
  is_first n low lt =
      elim (cases_lt 0 k) [
        | inl more ↦ absurd (omega (arith, mul-le 1 size k size (omega (arith, more)) (omega arith), lt, low))
        | inr none ↦ omega (arith, none)
      ]

  is_behind : (place : ℕ) → block_start size place ≤ j → place / size ≤ k
  is_behind place le =
      elim (cases_lt k (place / size)) [
        | inl before ↦ absurd (omega (arith, mul-le (k + 1) size (place / size) size (omega (arith, before)) (omega arith), le, some))
        | inr behind ↦ behind
      ]

  misses_first : (stream : ℕ) (text : List ℕ) (edits : List StreamEdit) → (stream ≡ i → k ≡ 0 → ⊥) → Misses i j edits → Misses i j (first_block size stream text ∷ edits)
  misses_first stream text edits never rest = misses_one i j (first_block size stream text) edits (λ is le lt. never is (is_first (length (take size text)) (omega (arith, length-take size text)) (omega (arith, lt)))) rest

  misses_from : (stream : ℕ) (text : List ℕ) (place : ℕ) → (stream ≡ i → place / size ≤ k → ⊥) → Misses i j (all_from stream text (block_start size place) ∷ [])
  misses_from stream text place never = misses_one i j (all_from stream text (block_start size place)) [] (λ is le lt. never is (is_behind place le)) refl

  misses_text : (stream : ℕ) (text : List ℕ) → (stream ≡ i → ⊥) → Misses i j (all_from stream text 0 ∷ [])
  misses_text stream text never = misses_one i j (all_from stream text 0) [] (λ is le lt. never is) refl

  not_first : (place : ℕ) → first_or_from size place k ≡ false → k ≡ 0 → ⊥
  not_first place none is = let both : true ≡ false = sym (eq-eqb k 0 is) ∙ (neither (eqb k 0) (leb (place / size) k) none).0 in cc

  not_behind : (place : ℕ) → first_or_from size place k ≡ false → place / size ≤ k → ⊥
  not_behind place none le = let both : true ≡ false = sym (le-leb (place / size) k le) ∙ (neither (eqb k 0) (leb (place / size) k) none).1 in cc

  misses_both : (stream : ℕ) (text : List ℕ) (place : ℕ) → (stream ≡ i → first_or_from size place k ≡ false) → Misses i j (first_and_from size stream text place)
  misses_both stream text place never =
      chosen (Misses i j) (ltb place size) (all_from stream text 0 ∷ []) (first_block size stream text ∷ all_from stream text (block_start size place) ∷ [])
      (λ low. misses_text stream text (λ is. not_behind place (never is) (let none : place / size ≡ 0 = div-eq_of_lt (ltb-true place size low) in omega (arith, none))))
      (λ high. misses_first stream text (all_from stream text (block_start size place) ∷ []) (λ is. not_first place (never is)) (misses_from stream text place (λ is. not_behind place (never is))))

  -- ---- the streams

  records_miss : (stream : ℕ) (fresh : Bool) (kept : Kept) (old records : List (List ℕ)) → (stream ≡ i → writes_records size fresh old records k ≡ false) → Misses i j (record_edits size fresh stream (record_extent old) kept records)
  unfolding record_edits
  records_miss stream fresh kept old records never =
      let text = record_stream_text kept records in
      let place = HEADER_BYTES + length (joined old) in
      let grew = ltb (length old) (length records) in
      chosen (Misses i j) grew (first_and_from size stream text place) (cond fresh (first_block size stream text ∷ []) [])
      (λ more. misses_both stream text place (λ is. sym (ap (λ t. cond t (first_or_from size place k) (fresh && k == 0)) more) ∙ never is))
      (λ same. chosen (Misses i j) fresh (first_block size stream text ∷ []) []
      (λ first. misses_first stream text [] (λ is zero. let none : (fresh && k == 0) ≡ false = sym (ap (λ t. cond t (first_or_from size place k) (fresh && k == 0)) same) ∙ never is in
      let both : true ≡ false = sym (eq-eqb k 0 zero) ∙ not_both fresh (k == 0) none first in cc) refl)
      (λ late. refl))

  hashes_miss : (fresh : Bool) (kept : Kept) (old records : List (List ℕ)) → (kept.hash_stream ≡ i → writes_hashes size fresh old records k ≡ false) → Misses i j (hash_edits size fresh (record_extent old) kept records)
  unfolding hash_edits
  hashes_miss fresh kept old records never =
      let text = hash_text records kept.buckets in
      let place = KEY_BYTES * length old in
      let grew = ltb (length old) (length records) in
      let rest = λ (is : kept.hash_stream ≡ i). neither fresh (grew && leb (place / size) k) (never is) in
      chosen (Misses i j) fresh (all_from kept.hash_stream text 0 ∷ []) (cond grew (all_from kept.hash_stream text (block_start size place) ∷ []) [])
      (λ first. misses_text kept.hash_stream text (λ is. let both : true ≡ false = sym first ∙ (rest is).0 in cc))
      (λ late. chosen (Misses i j) grew (all_from kept.hash_stream text (block_start size place) ∷ []) []
      (λ more. misses_from kept.hash_stream text place (λ is le. let both : true ≡ false = sym (le-leb (place / size) k le) ∙ not_both grew (leb (place / size) k) (rest is).1 more in cc))
      (λ same. refl))

  names_miss : (stream : ℕ) (fresh : Bool) (old : List (List ℕ)) (table : Names) → (stream ≡ i → writes_names size fresh old table.names k ≡ false) → Misses i j (names_edits size fresh stream (bytes_of old) table)
  unfolding names_edits
  names_miss stream fresh old table never =
      let text = names_text table.version table.names in
      let place = names.HEADER_BYTES + bytes_of old in
      let grew = ltb (bytes_of old) (bytes_of table.names) in
      let rest = λ (is : stream ≡ i). neither fresh (grew && first_or_from size place k) (never is) in
      chosen (Misses i j) fresh (all_from stream text 0 ∷ []) (cond grew (first_and_from size stream text place) [])
      (λ first. misses_text stream text (λ is. let both : true ≡ false = sym first ∙ (rest is).0 in cc))
      (λ late. chosen (Misses i j) grew (first_and_from size stream text place) []
      (λ more. misses_both stream text place (λ is. not_both grew (first_or_from size place k) (rest is).1 more))
      (λ same. refl))

-- a block of a stream that is not written, where the stream is this one
of_stream : (stream i : ℕ) (writes : Bool) → (i == stream && writes) ≡ false → stream ≡ i → writes ≡ false
of_stream stream i writes none is = not_both (eqb i stream) writes none (eq-eqb i stream (sym is))

pub commit_misses : (size blocks : ℕ) (sizes : Sizes) (kept : KeptNumbers) (fresh : Bool) (info : List ℕ) (age : ℕ) (old tables : Tables) (i k : ℕ) → 1 ≤ size
    → writes_block (shape_of size blocks sizes kept) fresh old tables i k ≡ false → edit_at (commit_edits size kept (extent_of fresh old) info age tables) i (k * size) ≡ None
unfolding commit_edits
commit_misses size blocks sizes kept fresh info age old tables i k some none =
    let types = old.types.records in
    let items = old.items.records in
    let w2 = writes_records size fresh types tables.types.records k in
    let w4 = writes_records size fresh items tables.items.records k in
    let h2 = writes_hashes size fresh types tables.types.records k in
    let h4 = writes_hashes size fresh items tables.items.records k in
    let n = writes_names size fresh old.names.names tables.names.names k in
    let a = neither (i == 1) _ none in
    let b = neither (i == 2 && w2) _ a.1 in
    let c = neither (i == 4 && w4) _ b.1 in
    let d = neither (i == kept.types.hash_stream && h2) _ c.1 in
    let e = neither (i == kept.items.hash_stream && h4) _ d.1 in
    let first : 1 ≡ i → ⊥ = λ is. let both : true ≡ false = sym (eq-eqb i 1 (sym is)) ∙ a.0 in cc in
    misses_all i (k * size) (all_from 1 (with_age info age) 0 ∷ []) _ (misses_text size i k some 1 (with_age info age) first)
    (misses_all i (k * size) (record_edits size fresh 2 (record_extent types) kept.types tables.types.records) _ (records_miss size i k some 2 fresh kept.types types tables.types.records (of_stream 2 i w2 b.0))
    (misses_all i (k * size) (record_edits size fresh 4 (record_extent items) kept.items tables.items.records) _ (records_miss size i k some 4 fresh kept.items items tables.items.records (of_stream 4 i w4 c.0))
    (misses_all i (k * size) (hash_edits size fresh (record_extent types) kept.types tables.types.records) _ (hashes_miss size i k some fresh kept.types types tables.types.records (of_stream kept.types.hash_stream i h2 d.0))
    (misses_all i (k * size) (hash_edits size fresh (record_extent items) kept.items tables.items.records) _ (hashes_miss size i k some fresh kept.items items tables.items.records (of_stream kept.items.hash_stream i h4 e.0))
    (names_miss size i k some kept.names_stream fresh old.names.names tables.names (of_stream kept.names_stream i n e.1))))))

-- ---- what is shared

shares_one : (size : ℕ) (edits : List StreamEdit) (i : ℕ) (writes : ℕ → Bool) (old new : Option StreamBlocks) → ((k : ℕ) → writes k ≡ false → edit_at edits i (k * size) ≡ None) → SharesBlocks size edits i old new → SharesBut writes old new
shares_one size edits i writes None None misses shares = tt
shares_one size edits i writes None (Some new) misses shares = shares
shares_one size edits i writes (Some old) None misses shares = shares
shares_one size edits i writes (Some old) (Some new) misses shares = λ k lt none. shares k lt (misses k none)

pub commit_shares : (c : Commit) (limit : ℕ) (image : Image) (p : Planned) → MayCommit c image → IsPlan limit image (edits_of c image.head.block) p → Shares c.shape c.fresh c.old c.tables image p.image
commit_shares c limit image p may plan =
    let size = image.head.block in
    let some : 1 ≤ size = let least = (sized size may.whole.head.block).least in omega (arith, least) in
    subst (λ (s : Shape). Shares s c.fresh c.old c.tables image p.image) (sym may.shape_is)
    (λ i le. shares_one size (edits_of c size) i (writes_block (shape_of size c.shape.blocks c.shape.sizes c.kept) c.fresh c.old c.tables i) (stream_at image.directory i) (stream_at p.image.directory i)
    (λ k none. commit_misses size c.shape.blocks c.shape.sizes c.kept c.fresh c.info c.age c.old c.tables i k some none) (plan.shares i le))

-- ---- the blocks of records that keep their numbers

nor : (a b : Bool) → a ≡ false → b ≡ false → (a || b) ≡ false
nor a b no_a no_b = ap (λ t. t || b) no_a ∙ no_b

of_other : (i stream : ℕ) (writes : Bool) → (i ≡ stream → ⊥) → (i == stream && writes) ≡ false
of_other i stream writes ne = ap (λ t. t && writes) (ne_eqb i stream ne)

inner_left : (size place k : ℕ) → 1 ≤ k → k < place / size → first_or_from size place k ≡ false
inner_left size place k some low =
    nor (eqb k 0) (leb (place / size) k) (ne_eqb k 0 (λ e. omega (arith, e, some)))
    (elim (cases_Bool (leb (place / size) k)) [ inl is ↦ absurd (omega (arith, leb-true (place / size) k is, low)) | inr never ↦ never ])

records_left : (size : ℕ) (old records : List (List ℕ)) (k : ℕ) → 1 ≤ k → k < (HEADER_BYTES + length (joined old)) / size → writes_records size false old records k ≡ false
records_left size old records k some low =
    let place = HEADER_BYTES + length (joined old) in
    chosen (λ t. t ≡ false) (ltb (length old) (length records)) (first_or_from size place k) (false && k == 0) (λ grew. inner_left size place k some low) (λ same. refl)

types_left : (shape : Shape) (old tables : Tables) (k : ℕ) → 5 ≤ shape.type_hashes → 5 ≤ shape.item_hashes → 5 ≤ shape.names_stream → 1 ≤ k → k < (HEADER_BYTES + length (joined old.types.records)) / shape.block → writes_block shape false old tables 2 k ≡ false
types_left shape old tables k types items names some low =
    nor (writes_records shape.block false old.types.records tables.types.records k) _ (records_left shape.block old.types.records tables.types.records k some low)
    (nor (2 == shape.type_hashes && writes_hashes shape.block false old.types.records tables.types.records k) _ (of_other 2 shape.type_hashes _ (λ e. omega (arith, e, types)))
    (nor (2 == shape.item_hashes && writes_hashes shape.block false old.items.records tables.items.records k) _ (of_other 2 shape.item_hashes _ (λ e. omega (arith, e, items)))
    (of_other 2 shape.names_stream _ (λ e. omega (arith, e, names)))))

items_left : (shape : Shape) (old tables : Tables) (k : ℕ) → 5 ≤ shape.type_hashes → 5 ≤ shape.item_hashes → 5 ≤ shape.names_stream → 1 ≤ k → k < (HEADER_BYTES + length (joined old.items.records)) / shape.block → writes_block shape false old tables 4 k ≡ false
items_left shape old tables k types items names some low =
    nor (writes_records shape.block false old.items.records tables.items.records k) _ (records_left shape.block old.items.records tables.items.records k some low)
    (nor (4 == shape.type_hashes && writes_hashes shape.block false old.types.records tables.types.records k) _ (of_other 4 shape.type_hashes _ (λ e. omega (arith, e, types)))
    (nor (4 == shape.item_hashes && writes_hashes shape.block false old.items.records tables.items.records k) _ (of_other 4 shape.item_hashes _ (λ e. omega (arith, e, items)))
    (of_other 4 shape.names_stream _ (λ e. omega (arith, e, names)))))

inner_one : (size end : ℕ) (writes : ℕ → Bool) (old new : Option StreamBlocks) → ((k : ℕ) → 1 ≤ k → k < end / size → writes k ≡ false) → SharesBut writes old new → KeepsInner size end old new
inner_one size end writes None new left shares = tt
inner_one size end writes (Some old) None left shares = shares
inner_one size end writes (Some old) (Some new) left shares = λ k some low lt. shares k lt (left k some low)

module _ (c : Commit) (image new : Image) (may : MayCommit c image) (shares : Shares c.shape false c.old c.tables image new) where
  hashes : (5 ≤ c.shape.type_hashes) × (5 ≤ c.shape.item_hashes) × (5 ≤ c.shape.names_stream)
  hashes =
      let can = may.can in
      let apart : (5 ≤ c.kept.types.hash_stream) × (5 ≤ c.kept.items.hash_stream) × (5 ≤ c.kept.names_stream) = (can.type_hashes, can.item_hashes, can.names_stream) in
      subst (λ (s : Shape). (5 ≤ s.type_hashes) × (5 ≤ s.item_hashes) × (5 ≤ s.names_stream)) (sym may.shape_is) apart

  pub inner_types : KeepsInner c.shape.block (HEADER_BYTES + length (joined c.old.types.records)) (stream_at image.directory 2) (stream_at new.directory 2)
  inner_types =
      inner_one c.shape.block (HEADER_BYTES + length (joined c.old.types.records)) (writes_block c.shape false c.old c.tables 2) (stream_at image.directory 2) (stream_at new.directory 2)
      (λ k some low. types_left c.shape c.old c.tables k hashes.0 hashes.1 hashes.2 some low) (shares 2 (omega arith))

  pub inner_items : KeepsInner c.shape.block (HEADER_BYTES + length (joined c.old.items.records)) (stream_at image.directory 4) (stream_at new.directory 4)
  inner_items =
      inner_one c.shape.block (HEADER_BYTES + length (joined c.old.items.records)) (writes_block c.shape false c.old c.tables 4) (stream_at image.directory 4) (stream_at new.directory 4)
      (λ k some low. items_left c.shape c.old c.tables k hashes.0 hashes.1 hashes.2 some low) (shares 4 (omega arith))
