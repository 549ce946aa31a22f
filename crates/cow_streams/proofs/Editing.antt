-- Edits in whole blocks: an edit has a byte where it has the first byte of its block.
use Rattle.std.proofs.Common.{◌≡◌, ◌≤◌, ◌<◌, ◌+◌, ◌*◌, ◌/◌, ◌%◌, ◌&&◌, ◌||◌, ◌⊎◌, ℕ, Bool, true, cond, eqb, leb, ltb, List, [], ◌∷◌, length, get_or, find, All, Option, Some, refl, sym, ap, subst, ◌∙◌, inl, inr, arith}
use Rattle.std.specs.List.{AllByRecursion, list_any}
use Rattle.std.proofs.lemmas.Bool.{and_parts, cases_Bool, cases_eq, cases_lt, eq-eqb, eqb-true, le-leb, le-ltb, leb-true, lt-leb, lt-ltb, ltb-true, ne_eqb}
use Rattle.std.proofs.lemmas.List.Elements.{recursion_from_All}
use Rattle.std.proofs.lemmas.List.Folds.{list_any_at}
use Rattle.std.proofs.lemmas.Nat.{div-add-mod', le-div, mod_below, mul-le}
use Rattle.std.proofs.Math.Nat.{suc-mul}
use Rattle.msf_blocks.specs.Edit.{StreamEdit}
use Rattle.stream_directory.specs.Directory.{StreamBlocks, absent_size}
use Rattle.cow_streams.specs.Edits.{IsEdit, edit_at, has_byte, len_after}

-- ---- multiples

whole_of : (size m : ℕ) → m % size ≡ 0 → m / size * size ≡ m
whole_of size m none = omega (arith, div-add-mod' m size, none)

-- a multiple that is not above a number is not above the multiple below it
multiple_below : (size m j : ℕ) → 0 < size → m % size ≡ 0 → m ≤ j → m ≤ j / size * size
multiple_below size m j some none le =
    let whole = whole_of size m none in
    let a : m / size ≤ j / size = le-div (m / size) j size some (omega (arith, whole, le)) in
    omega (arith, whole, mul-le (m / size) size (j / size) size a (omega arith))

multiple_above : (size m j : ℕ) → 0 < size → m % size ≡ 0 → j / size * size < m → j < m
multiple_above size m j some none lt =
    let whole = whole_of size m none in
    let low = mod_below j size some in
    let split = div-add-mod' j size in
    elim (cases_lt (j / size) (m / size)) [
      | inl less ↦ let next = mul-le (j / size + 1) size (m / size) size (omega (arith, less)) (omega arith) in omega (arith, whole, low, split, next, suc-mul (j / size) size)
      | inr more ↦ absurd (let no_less = mul-le (m / size) size (j / size) size more (omega arith) in omega (arith, whole, no_less, lt))
    ]

-- ---- tests that agree

same_leb : (a b c d : ℕ) → (a ≤ b → c ≤ d) → (c ≤ d → a ≤ b) → leb a b ≡ leb c d
same_leb a b c d one two =
    elim (cases_lt b a) [
      | inl above ↦ lt-leb a b above ∙ sym (lt-leb c d (elim (cases_lt d c) [ inl is ↦ is | inr le ↦ let back = two le in absurd (omega (arith, above, back)) ]))
      | inr le ↦ le-leb a b le ∙ sym (le-leb c d (one le))
    ]

same_ltb : (a b c d : ℕ) → (a < b → c < d) → (c < d → a < b) → ltb a b ≡ ltb c d
same_ltb a b c d one two =
    elim (cases_lt a b) [
      | inl lt ↦ lt-ltb a b lt ∙ sym (lt-ltb c d (one lt))
      | inr le ↦ le-ltb a b le ∙ sym (le-ltb c d (elim (cases_lt c d) [ inr is ↦ is | inl lt ↦ let back = two lt in absurd (omega (arith, le, back)) ]))
    ]

-- what is needed of an edit, where its stream has this length
pub record IsAligned (size i len : ℕ) (e : StreamEdit) : Type 0 where
  pub begins : e.at % size ≡ 0
  pub ends : ((e.at + length e.bytes) % size ≡ 0) ⊎ (e.at + length e.bytes ≡ e.len)
  pub agrees : e.stream ≡ i → e.len ≡ len

same_test : (size i j len : ℕ) (e : StreamEdit) → 0 < size → IsAligned size i len e → j < len → has_byte i (j / size * size) e ≡ has_byte i j e
same_test size i j len e some is lt =
    let first = j / size * size in
    let end = e.at + length e.bytes in
    let below : first ≤ j = omega (arith, div-add-mod' j size) in
    elim (cases_eq e.stream i) [
      | inr other ↦
          let no_stream = ne_eqb e.stream i other in
          ap (λ t. t && (leb e.at first && ltb first end)) no_stream ∙ sym (ap (λ t. t && (leb e.at j && ltb j end)) no_stream)
      | inl same ↦
          let behind : first < end → j < end = λ less. elim is.ends [ inl whole ↦ multiple_above size end j some whole less | inr last ↦ let agreed = is.agrees same in omega (arith, last, agreed, lt) ] in
          ap (λ t. eqb e.stream i && (t && ltb first end)) (same_leb e.at first e.at j (λ le. omega (arith, le, below)) (λ le. multiple_below size e.at j some is.begins le))
          ∙ ap (λ t. eqb e.stream i && (leb e.at j && t)) (same_ltb first end j end behind (λ less. omega (arith, less, below)))
    ]

-- an edit has a byte where it has the first byte of its block
pub same_edit : (size i j len : ℕ) (edits : List StreamEdit) → 0 < size → AllByRecursion (IsAligned size i len) edits → j < len → edit_at edits i (j / size * size) ≡ edit_at edits i j
same_edit size i j len [] some are lt = refl
same_edit size i j len (e ∷ edits) some are lt =
    ap (λ t. cond t (Some e) (edit_at edits i (j / size * size))) (same_test size i j len e some are.0 lt) ∙ ap (λ o. cond (has_byte i j e) (Some e) o) (same_edit size i j len edits some are.1 lt)

-- what was found
pub found_has : {X : Type 0} (p : X → Bool) (P : X → Type 0) (xs : List X) (x : X) → find p xs ≡ Some x → AllByRecursion P xs → (p x ≡ true) × P x
found_has p P [] x is each = absurd cc
found_has {X} p P (y ∷ xs) x is each =
    elim (cases_Bool (p y)) [
      | inl here ↦
          let some : Some y ≡ Some x = sym (ap (λ t. cond t (Some y) (find p xs)) here) ∙ is in
          let same : y ≡ x = cc in
          subst (λ z. (p z ≡ true) × P z) same (here, each.0)
      | inr later ↦ found_has p P xs x (sym (ap (λ t. cond t (Some y) (find p xs)) later) ∙ is) each.1
    ]

-- where the found edit begins
pub found_begins : (i j : ℕ) (e : StreamEdit) → has_byte i j e ≡ true → (e.stream ≡ i) × (e.at ≤ j) × (j < e.at + length e.bytes)
found_begins i j e is =
    let a = and_parts (eqb e.stream i) (leb e.at j && ltb j (e.at + length e.bytes)) is in
    let b = and_parts (leb e.at j) (ltb j (e.at + length e.bytes)) a.1 in
    (eqb-true e.stream i a.0, leb-true e.at j b.0, ltb-true j (e.at + length e.bytes) b.1)

-- ---- the length of a stream

-- where an edit names the stream, its old length does not count
len_same : (edits : List StreamEdit) (i n m : ℕ) → list_any (λ e. eqb e.stream i) edits ≡ true → len_after edits i n ≡ len_after edits i m
len_same [] i n m named = absurd cc
len_same (e ∷ edits) i n m named =
    elim (cases_Bool (eqb e.stream i)) [
      | inl here ↦ ap (λ t. cond t e.len (len_after edits i n)) here ∙ sym (ap (λ t. cond t e.len (len_after edits i m)) here)
      | inr later ↦
          ap (λ t. cond t e.len (len_after edits i n)) later ∙ len_same edits i n m (sym (ap (λ t. t || list_any (λ e. eqb e.stream i) edits) later) ∙ named)
          ∙ sym (ap (λ t. cond t e.len (len_after edits i m)) later)
    ]

pub are_aligned : (size : ℕ) (streams : List (Option StreamBlocks)) (edits : List StreamEdit) (i n : ℕ) → All (IsEdit size streams edits) edits → AllByRecursion (IsAligned size i (len_after edits i n)) edits
are_aligned size streams edits i n each =
    recursion_from_All (IsAligned size i (len_after edits i n)) edits
    (λ k d lt.
    let e = get_or edits k d in
    let is = each k d lt in
    record {
      begins = is.begins;
      ends = is.ends;
      agrees = λ same. sym is.agrees ∙ ap (λ s. len_after edits s e.len) same ∙ len_same edits i e.len n (list_any_at (λ e. eqb e.stream i) edits k d lt (eq-eqb e.stream i same));
    })

-- a length that fits
pub len_short : (edits : List StreamEdit) (i n : ℕ) → AllByRecursion (λ e. e.len < absent_size) edits → n < absent_size → len_after edits i n < absent_size
len_short [] i n each short = short
len_short (e ∷ edits) i n each short =
    let P = λ (m : ℕ). m < absent_size in
    elim (cases_Bool (eqb e.stream i)) [
      | inl here ↦ subst P (sym (ap (λ t. cond t e.len (len_after edits i n)) here)) each.0
      | inr later ↦ subst P (sym (ap (λ t. cond t e.len (len_after edits i n)) later)) (len_short edits i n each.1 short)
    ]
