-- Edits of one stream that are parts of a text: that they may be made, and that they make the text.
use Rattle.std.proofs.Common.{◌≡◌, ◌≤◌, ◌<◌, ◌+◌, ◌-◌, ◌*◌, ◌/◌, ◌%◌, ◌&&◌, ◌⊎◌, ℕ, Bool, true, false, cond, List, [], ◌∷◌, length, map, take, drop, get_or, Option, Some, None, refl, sym, ap, subst, ◌∙◌, inl, inr, arith, eqb, leb, ltb}
use Rattle.std.specs.List.{AllByRecursion, range_with_len}
use Rattle.std.proofs.lemmas.Bool.{and_from, cases_Bool, cases_lt, eq-eqb, le-leb, lt-ltb}
use Rattle.std.proofs.lemmas.List.{ext_get_or, get_or-drop, get_or-take, length-drop, length-take-le, take_all}
use Rattle.std.proofs.lemmas.List.FromFn.{get_or-map-range_with_len, length-map-range_with_len}
use Rattle.std.proofs.lemmas.Nat.{mul-le}
use Rattle.std.proofs.Math.Nat.{div-mul-le_self, lt_of_mul-lt-mul_right, mod_self, mul-mod_left, zero-mod}
use Rattle.msf_blocks.specs.Edit.{StreamEdit}
use Rattle.cow_streams.specs.Edits.{byte_by, edit_at, edited_stream, has_byte, len_after}
use Rattle.cow_streams.proofs.Editing.{found_begins, found_has}
use Rattle.type_store.specs.Commit.{all_from, block_start, first_and_from, first_block}

-- an edit of stream i in whole blocks that has bytes of a text
pub record IsPart (size i : ℕ) (text : List ℕ) (e : StreamEdit) : Type 0 where
  pub stream : e.stream ≡ i
  pub begins : e.at % size ≡ 0
  pub ends : ((e.at + length e.bytes) % size ≡ 0) ⊎ (e.at + length e.bytes ≡ e.len)
  pub inside : e.at + length e.bytes ≤ e.len
  pub len : e.len ≡ length text
  pub bytes : (k : ℕ) → k < length e.bytes → get_or e.bytes k 0 ≡ get_or text (e.at + k) 0

from_end : (text : List ℕ) (at : ℕ) → at ≤ length text → at + length (drop at text) ≡ length text
from_end text at le = omega (arith, length-drop at text, le)

from_part : (size i : ℕ) (text : List ℕ) (at : ℕ) → at % size ≡ 0 → at ≤ length text → IsPart size i text (all_from i text at)
from_part size i text at begins le =
    let end = from_end text at le in
    record { stream = refl; begins = begins; ends = inr end; inside = omega (arith, end); len = refl; bytes = λ k lt. get_or-drop at text k 0 }

first_end : (size : ℕ) (text : List ℕ) → ((length (take size text) ≡ size) × (size ≤ length text)) ⊎ ((length (take size text) ≡ length text) × (length text ≤ size))
first_end size text =
    elim (cases_lt (length text) size) [
      | inl short ↦ let le : length text ≤ size = omega (arith, short) in inr (ap length (take_all size text le), le)
      | inr long ↦ inl (length-take-le size text long, long)
    ]

first_part : (size i : ℕ) (text : List ℕ) → IsPart size i text (first_block size i text)
first_part size i text =
    elim (first_end size text) [
      | inl long ↦ made size long.0 (omega arith) long.1 (inl (mod_self size))
      | inr short ↦ made (length text) short.0 short.1 (omega arith) (inr refl)
    ]
  where
    made : (n : ℕ) → length (take size text) ≡ n → n ≤ size → n ≤ length text → (n % size ≡ 0) ⊎ (n ≡ length text) → IsPart size i text (first_block size i text)
    made n is low inside ends =
        let end : n ≡ 0 + length (take size text) = omega (arith, is) in
        let Ends : ℕ → Type 0 = λ m. (m % size ≡ 0) ⊎ (m ≡ length text) in
        let front : (k : ℕ) → 0 + k ≡ k = λ k. omega arith in
        record {
          stream = refl;
          begins = zero-mod size;
          ends = subst Ends end ends;
          inside = omega (arith, end, inside);
          len = refl;
          bytes = λ k lt. get_or-take size text k 0 (omega (arith, is, low, lt)) ∙ ap (λ j. get_or text j 0) (sym (front k));
        }

-- ---- where an edit is

-- an edit of the stream that has not a byte begins behind it or ends before it
outside : (i j : ℕ) (e : StreamEdit) (edits : List StreamEdit) → e.stream ≡ i → edit_at (e ∷ edits) i j ≡ None → ((j < e.at) ⊎ (e.at + length e.bytes ≤ j)) × (edit_at edits i j ≡ None)
outside i j e edits is none =
    elim (cases_Bool (has_byte i j e)) [
      | inl there ↦ absurd (let some : Some e ≡ None = sym (ap (λ t. cond t (Some e) (edit_at edits i j)) there) ∙ none in cc)
      | inr away ↦ (beside away, sym (ap (λ t. cond t (Some e) (edit_at edits i j)) away) ∙ none)
    ]
  where
    inside : e.at ≤ j → j < e.at + length e.bytes → has_byte i j e ≡ true
    inside le lt =
        and_from (eqb e.stream i) (leb e.at j && ltb j (e.at + length e.bytes)) (eq-eqb e.stream i is)
        (and_from (leb e.at j) (ltb j (e.at + length e.bytes)) (le-leb e.at j le) (lt-ltb j (e.at + length e.bytes) lt))

    beside : has_byte i j e ≡ false → (j < e.at) ⊎ (e.at + length e.bytes ≤ j)
    beside away =
        elim (cases_lt j e.at) [
          | inl before ↦ inl before
          | inr le ↦ elim (cases_lt j (e.at + length e.bytes)) [ inl lt ↦ absurd (let both : true ≡ false = sym (inside le lt) ∙ away in cc) | inr past ↦ inr past ]
        ]

len_first : (e : StreamEdit) (edits : List StreamEdit) (i n : ℕ) → e.stream ≡ i → len_after (e ∷ edits) i n ≡ e.len
len_first e edits i n is = ap (λ t. cond t e.len (len_after edits i n)) (eq-eqb e.stream i is)

-- ---- edits of one stream

-- Edits of stream i, which has so many bytes, that may be made and give it the length of a text.
pub record AreParts (size i old : ℕ) (text : List ℕ) (edits : List StreamEdit) : Type 0 where
  pub parts : AllByRecursion (IsPart size i text) edits
  pub len : len_after edits i old ≡ length text
  pub covered : (k : ℕ) → k * size < length text → edit_at edits i (k * size) ≡ None → (length text ≤ old) ⊎ ((k + 1) * size ≤ old)

-- a text from a place up to another is that of the old stream
abbrev pub IsAlike : ℕ → ℕ → List ℕ → List ℕ → Type 0
IsAlike low high old text = (j : ℕ) → low ≤ j → j < high → get_or old j 0 ≡ get_or text j 0

-- a byte of the text that no edit has is the old one
abbrev pub IsLeft : ℕ → List ℕ → List ℕ → List StreamEdit → Type 0
IsLeft i old text edits = (j : ℕ) → j < length text → edit_at edits i j ≡ None → get_or old j 0 ≡ get_or text j 0

pub edits_make : (size i : ℕ) (old text : List ℕ) (edits : List StreamEdit) → AreParts size i (length old) text edits → IsLeft i old text edits → edited_stream edits i old ≡ text
unfolding edited_stream
edits_make size i old text edits are left =
    let len = len_after edits i (length old) in
    let g = λ (j : ℕ). byte_by j old (edit_at edits i j) in
    let n : length (map g (range_with_len 0 len)) ≡ length text = length-map-range_with_len g 0 len ∙ are.len in
    ext_get_or 0 (map g (range_with_len 0 len)) text n
    (λ j lt. get_or-map-range_with_len g 0 len j j 0 (omega (arith, lt, n, are.len)) (omega arith) ∙ byte j (omega (arith, lt, n)) (edit_at edits i j) refl)
  where
    byte : (j : ℕ) → j < length text → (o : Option StreamEdit) → edit_at edits i j ≡ o → byte_by j old o ≡ get_or text j 0
    byte j lt None none = left j lt none
    byte j lt (Some e) some =
        let has = found_has (has_byte i j) (IsPart size i text) edits e some are.parts in
        let at = found_begins i j e has.0 in
        has.1.bytes (j - e.at) (omega (arith, at.1, at.2)) ∙ ap (λ m. get_or text m 0) (omega (arith, at.1))

-- ---- the five shapes

-- no edit
pub none_parts : (size i old : ℕ) (text : List ℕ) → old ≡ length text → AreParts size i old text []
none_parts size i old text is = record { parts = tt; len = is; covered = λ k lt none. inl (omega (arith, is)) }

-- all of the text
pub whole_parts : (size i old : ℕ) (text : List ℕ) → AreParts size i old text (all_from i text 0 ∷ [])
whole_parts size i old text = record {
  parts = (from_part size i text 0 (zero-mod size) (omega arith), tt);
  len = len_first (all_from i text 0) [] i old refl;
  covered = λ k lt none. absurd (no_byte (k * size) lt none);
}
  where
    no_byte : (j : ℕ) → j < length text → edit_at (all_from i text 0 ∷ []) i j ≡ None → ⊥
    no_byte j lt none = elim (outside i j (all_from i text 0) [] refl none).0 [ inl before ↦ omega (arith, before) | inr past ↦ omega (arith, past, from_end text 0 (omega arith), lt) ]

pub whole_left : (i : ℕ) (old text : List ℕ) → IsLeft i old text (all_from i text 0 ∷ [])
whole_left i old text = λ j lt none. absurd (elim (outside i j (all_from i text 0) [] refl none).0 [ inl before ↦ omega (arith, before) | inr past ↦ omega (arith, past, from_end text 0 (omega arith), lt) ])

pub whole_makes : (size i : ℕ) (old text : List ℕ) → edited_stream (all_from i text 0 ∷ []) i old ≡ text
whole_makes size i old text = edits_make size i old text (all_from i text 0 ∷ []) (whole_parts size i (length old) text) (whole_left i old text)

-- the first block, of a text that is no longer than the stream
behind_first : (size i j : ℕ) (text : List ℕ) (edits : List StreamEdit) → j < length text → edit_at (first_block size i text ∷ edits) i j ≡ None → (size ≤ j) × (edit_at edits i j ≡ None)
behind_first size i j text edits lt none =
    let o = outside i j (first_block size i text) edits refl none in
    (elim o.0 [ inl before ↦ absurd (omega (arith, before)) | inr past ↦ elim (first_end size text) [ inl long ↦ omega (arith, past, long.0) | inr short ↦ absurd (omega (arith, past, short.0, lt)) ] ], o.1)

pub first_parts : (size i old : ℕ) (text : List ℕ) → length text ≤ old → AreParts size i old text (first_block size i text ∷ [])
first_parts size i old text le = record { parts = (first_part size i text, tt); len = len_first (first_block size i text) [] i old refl; covered = λ k lt none. inl le }

pub first_left : (size i : ℕ) (old text : List ℕ) → IsAlike size (length text) old text → IsLeft i old text (first_block size i text ∷ [])
first_left size i old text alike = λ j lt none. alike j (behind_first size i j text [] lt none).0 lt

-- all from the block of a place on, which is in the stream and in the text
before_from : (i j at : ℕ) (text : List ℕ) (edits : List StreamEdit) → at ≤ length text → j < length text → edit_at (all_from i text at ∷ edits) i j ≡ None → (j < at) × (edit_at edits i j ≡ None)
before_from i j at text edits le lt none =
    let o = outside i j (all_from i text at) edits refl none in
    (elim o.0 [ inl before ↦ before | inr past ↦ absurd (omega (arith, past, from_end text at le, lt)) ], o.1)

block_before : (size k place : ℕ) → k * size < block_start size place → (k + 1) * size ≤ place
block_before size k place lt =
    let less = lt_of_mul-lt-mul_right size {m = k} {n = place / size} lt in
    omega (arith, div-mul-le_self place size, mul-le (k + 1) size (place / size) size (omega (arith, less)) (omega arith))

pub from_parts : (size i old : ℕ) (text : List ℕ) (place : ℕ) → place ≤ old → place ≤ length text → AreParts size i old text (all_from i text (block_start size place) ∷ [])
from_parts size i old text place in_old in_text =
    let at = block_start size place in
    let low : at ≤ length text = omega (arith, div-mul-le_self place size, in_text) in
    record {
      parts = (from_part size i text at (mul-mod_left (place / size) size) low, tt);
      len = len_first (all_from i text at) [] i old refl;
      covered = λ k lt none. inr (omega (arith, block_before size k place (before_from i (k * size) at text [] low lt none).0, in_old));
    }

pub from_left : (size i : ℕ) (old text : List ℕ) (place : ℕ) → place ≤ length text → IsAlike 0 (block_start size place) old text → IsLeft i old text (all_from i text (block_start size place) ∷ [])
from_left size i old text place in_text alike =
    λ j lt none.
    let low : block_start size place ≤ length text = omega (arith, div-mul-le_self place size, in_text) in
    alike j (omega arith) (before_from i j (block_start size place) text [] low lt none).0

-- the first block, and all from the block of a place on
chosen : {X : Type 0} (P : X → Type 0) (t : Bool) (x y : X) → P x → P y → P (cond t x y)
chosen P true x y is_x is_y = is_x
chosen P false x y is_x is_y = is_y

pub both_parts : (size i old : ℕ) (text : List ℕ) (place : ℕ) → place ≤ old → place ≤ length text → AreParts size i old text (first_and_from size i text place)
both_parts size i old text place in_old in_text =
    let at = block_start size place in
    let first = first_block size i text in
    let rest = all_from i text at in
    let low : at ≤ length text = omega (arith, div-mul-le_self place size, in_text) in
    let both : AreParts size i old text (first ∷ rest ∷ []) = record {
      parts = (first_part size i text, (from_part size i text at (mul-mod_left (place / size) size) low, tt));
      len = len_first first (rest ∷ []) i old refl;
      covered = λ k lt none. inr (omega (arith, block_before size k place (before_from i (k * size) at text [] low lt (behind_first size i (k * size) text (rest ∷ []) lt none).1).0, in_old));
    } in
    chosen (AreParts size i old text) (ltb place size) (all_from i text 0 ∷ []) (first ∷ rest ∷ []) (whole_parts size i old text) both

pub both_left : (size i : ℕ) (old text : List ℕ) (place : ℕ) → place ≤ length text → IsAlike size (block_start size place) old text → IsLeft i old text (first_and_from size i text place)
both_left size i old text place in_text alike =
    let at = block_start size place in
    let rest = all_from i text at in
    let low : at ≤ length text = omega (arith, div-mul-le_self place size, in_text) in
    let both : IsLeft i old text (first_block size i text ∷ rest ∷ []) =
    λ j lt none. let b = behind_first size i j text (rest ∷ []) lt none in alike j b.0 (before_from i j at text [] low lt b.1).0 in
    chosen (IsLeft i old text) (ltb place size) (all_from i text 0 ∷ []) (first_block size i text ∷ rest ∷ []) (whole_left i old text) both
