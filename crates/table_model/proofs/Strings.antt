-- The table of names: an add that was answered, and what it leaves.
use Rattle.std.proofs.Common.{◌≡◌, ◌≤◌, ◌<◌, ◌^◌, ◌+◌, ◌==◌, ℕ, Bool, true, false, cond, ltb, List, [], ◌∷◌, ◌++◌, length, Option, Some, None, Ok, Err, ◌⊎◌, inl, inr, ⊎_elim, refl, sym, ap, ◌∙◌, subst, arith}
use Rattle.std.specs.Prelude.{◌&&◌, is_ok, is_none}
use Rattle.std.specs.Option.{option_map, unwrap_or}
use Rattle.std.specs.Str.{bytes_eq}
use Rattle.std.proofs.lemmas.Bool.{cond-true, cond-false, eq-eqb, ne_eqb, ltb-false}
use Rattle.std.proofs.lemmas.Slice.Eq.{bytes_eq-Decides}
use Rattle.names_table.specs.declared.fault.NameFault.TheVariants.{Full}
use Rattle.names_table.specs.Names.{Names, after_add, answer_to_add, answer_to_new, bytes_of, name_at, name_from, needed_for, offset_from, offset_of}
use Rattle.table_model.proofs.Counting.{bytes_of-push, some-bytes}

-- offsets

offset_within : (start : ℕ) (names : List (List ℕ)) (name : List ℕ) (at : ℕ) → offset_from start names name ≡ Some at → at + 1 < start + bytes_of names
offset_within start [] name at e = absurd (grind arith)
offset_within start (x ∷ names) name at e = go (bytes_eq x name) (offset_within (start + length x + 1) names name at) e where
  go : (t : Bool) → (offset_from (start + length x + 1) names name ≡ Some at → at + 1 < start + length x + 1 + bytes_of names) → cond t (Some start) (offset_from (start + length x + 1) names name) ≡ Some at → at + 1 < start + bytes_of (x ∷ names)
  go true h e = let same : start ≡ at = grind arith in omega (arith, some-bytes names)
  go false h e = omega (arith, h e)

-- a name keeps its offset when others come behind
offset_stays : (start : ℕ) (names : List (List ℕ)) (other name : List ℕ) (at : ℕ) → offset_from start names name ≡ Some at → offset_from start (names ++ other ∷ []) name ≡ Some at
offset_stays start [] other name at e = absurd (grind arith)
offset_stays start (x ∷ names) other name at e = go (bytes_eq x name) (offset_stays (start + length x + 1) names other name at) e where
  go : (t : Bool) → (offset_from (start + length x + 1) names name ≡ Some at → offset_from (start + length x + 1) (names ++ other ∷ []) name ≡ Some at) →
      cond t (Some start) (offset_from (start + length x + 1) names name) ≡ Some at → cond t (Some start) (offset_from (start + length x + 1) (names ++ other ∷ []) name) ≡ Some at
  go true h e = e
  go false h e = h e

-- a new name begins where the names end
offset_new : (start : ℕ) (names : List (List ℕ)) (name : List ℕ) (at : ℕ) → offset_from start names name ≡ None → at + 1 ≡ start + bytes_of names → offset_from start (names ++ name ∷ []) name ≡ Some at
offset_new start [] name at e is = rw ((bytes_eq-Decides name name).1 refl) (ap Some (omega arith))
offset_new start (x ∷ names) name at e is = go (bytes_eq x name) (λ d. offset_new (start + length x + 1) names name at d (omega arith)) e where
  go : (t : Bool) → (offset_from (start + length x + 1) names name ≡ None → offset_from (start + length x + 1) (names ++ name ∷ []) name ≡ Some at) →
      cond t (Some start) (offset_from (start + length x + 1) names name) ≡ None → cond t (Some start) (offset_from (start + length x + 1) (names ++ name ∷ []) name) ≡ Some at
  go true h e = absurd (grind arith)
  go false h e = h e

-- adds

abbrev pub with_name : Names → List ℕ → Names
with_name t name = record t { names = t.names ++ name ∷ [] }

-- the name becomes the last
pub record IsLast (t : Names) (name : List ℕ) (at : ℕ) : Type 0 where
  pub new : offset_of t name ≡ None
  pub end : at ≡ bytes_of t.names
  pub short : bytes_of t.names + length name + 1 ≤ t.max_bytes

-- how an add was answered with an offset: an equal name has it, or the name becomes the last
pub add_cases : (t : Names) (name : List ℕ) (at : ℕ) → answer_to_add t name ≡ Ok at → (offset_of t name ≡ Some at) ⊎ IsLast t name at
add_cases t name at e = go (offset_of t name) refl e where
  last : (a : Bool) → ltb t.max_bytes (needed_for t name) ≡ a → offset_of t name ≡ None → cond a (Err (Full (needed_for t name))) (Ok (bytes_of t.names)) ≡ Ok at → IsLast t name at
  last true p new e = absurd (grind arith)
  last false p new e = record { new = new; end = grind arith; short = ltb-false t.max_bytes (needed_for t name) p }

  go : (o : Option ℕ) → offset_of t name ≡ o → unwrap_or (option_map Ok o) (answer_to_new t name) ≡ Ok at → (offset_of t name ≡ Some at) ⊎ IsLast t name at
  go (Some i) is e = let same : i ≡ at = grind arith in inl (is ∙ ap Some same)
  go None is e = inr (last (ltb t.max_bytes (needed_for t name)) refl is e)

-- an offset of the table is below the next
old_below : (t : Names) (name : List ℕ) (at : ℕ) → offset_of t name ≡ Some at → at < bytes_of t.names
old_below t [] at e = let same : 0 ≡ at = grind arith in omega (arith, some-bytes t.names)
old_below t (b ∷ name) at e = omega (arith, offset_within 1 t.names (b ∷ name) at e)

-- the table with the name, where its offset is the next
abbrev pub grown : Names → ℕ → List ℕ → Names
grown t at name = cond (at == bytes_of t.names) (with_name t name) t

grown_old : (t : Names) (name : List ℕ) (at : ℕ) → offset_of t name ≡ Some at → grown t at name ≡ t
grown_old t name at e = let l = old_below t name at e in cond-false (at == bytes_of t.names) (with_name t name) t (ne_eqb at (bytes_of t.names) (λ s. omega arith))

grown_last : (t : Names) (name : List ℕ) (at : ℕ) → IsLast t name at → grown t at name ≡ with_name t name
grown_last t name at last = cond-true (at == bytes_of t.names) (with_name t name) t (eq-eqb at (bytes_of t.names) last.end)

-- an answered add leaves the table that grew so
pub after_answered : (t : Names) (name : List ℕ) (at : ℕ) → answer_to_add t name ≡ Ok at → after_add t name ≡ grown t at name
after_answered t name at e = ⊎_elim (λ (o : offset_of t name ≡ Some at). after_old o ∙ sym (grown_old t name at o)) (λ (l : IsLast t name at). after_last l ∙ sym (grown_last t name at l)) (add_cases t name at e) where
  after_old : offset_of t name ≡ Some at → after_add t name ≡ t
  after_old o = ap (λ i. cond (is_none i && is_ok (answer_to_new t name)) (with_name t name) t) o

  after_last : IsLast t name at → after_add t name ≡ with_name t name
  after_last l = grind (arith, l.new, e)

abbrev WithinBytes : ℕ → Names → Type 0
WithinBytes most t = bytes_of t.names ≤ most

-- they are within their limit, as they were
pub within_grown : (t : Names) (name : List ℕ) (at : ℕ) → answer_to_add t name ≡ Ok at → bytes_of t.names ≤ t.max_bytes → bytes_of (grown t at name).names ≤ t.max_bytes
within_grown t name at e w =
    ⊎_elim (λ (o : offset_of t name ≡ Some at). subst (WithinBytes t.max_bytes) (sym (grown_old t name at o)) w)
    (λ (l : IsLast t name at). subst (WithinBytes t.max_bytes) (sym (grown_last t name at l)) (omega (arith, bytes_of-push t.names name, l.short))) (add_cases t name at e)

-- the offset has 32 bits
pub small_offset : (t : Names) (name : List ℕ) (at : ℕ) → answer_to_add t name ≡ Ok at → bytes_of t.names ≤ t.max_bytes → t.max_bytes ≤ 2 ^ 28 → at < 2 ^ 32
small_offset t name at e w few = ⊎_elim (λ (o : offset_of t name ≡ Some at). let l = old_below t name at o in omega arith) (λ (l : IsLast t name at). omega (arith, l.end)) (add_cases t name at e)

-- an offset stays
pub offset_kept : (t : Names) (other name : List ℕ) (at place : ℕ) → offset_of t name ≡ Some at → offset_of (grown t place other) name ≡ Some at
offset_kept t other name at place e = go (place == bytes_of t.names) where
  kept : (name : List ℕ) → offset_of t name ≡ Some at → offset_of (with_name t other) name ≡ Some at
  kept [] e = e
  kept (b ∷ name) e = offset_stays 1 t.names other (b ∷ name) at e

  go : (b : Bool) → offset_of (cond b (with_name t other) t) name ≡ Some at
  go true = kept name e
  go false = e

-- an answered add leaves its name at its offset
pub offset_after : (t : Names) (name : List ℕ) (at : ℕ) → answer_to_add t name ≡ Ok at → offset_of (grown t at name) name ≡ Some at
offset_after t name at e = ⊎_elim (λ (o : offset_of t name ≡ Some at). offset_kept t name name at at o) (λ (l : IsLast t name at). rw (grown_last t name at l) (new name l)) (add_cases t name at e) where
  new : (name : List ℕ) → IsLast t name at → offset_of (with_name t name) name ≡ Some at
  new [] l = absurd (grind (arith, l.new))
  new (b ∷ name) l = offset_new 1 t.names (b ∷ name) at l.new (omega (arith, l.end))

-- why an add was refused
pub no_room : (t : Names) (name : List ℕ) (needed : ℕ) → answer_to_add t name ≡ Err (Full needed) → t.max_bytes < bytes_of t.names + length name + 1
no_room t name needed e = grind arith

-- what stands at an offset that was found

there_from : (start : ℕ) (names : List (List ℕ)) (name : List ℕ) (at : ℕ) → offset_from start names name ≡ Some at → (start ≤ at) × (name_from start names at ≡ Some name)
there_from start [] name at e = absurd cc
there_from start (x ∷ names) name at e = go (bytes_eq x name) refl (there_from (start + length x + 1) names name at) e where
  go : (t : Bool) → bytes_eq x name ≡ t → (offset_from (start + length x + 1) names name ≡ Some at → (start + length x + 1 ≤ at) × (name_from (start + length x + 1) names at ≡ Some name))
      → cond t (Some start) (offset_from (start + length x + 1) names name) ≡ Some at → (start ≤ at) × (name_from start (x ∷ names) at ≡ Some name)
  go true same h e =
      let first : start ≡ at = cc in
      (omega arith, cond-true (start == at) (Some x) (name_from (start + length x + 1) names at) (eq-eqb start at first) ∙ ap Some ((bytes_eq-Decides x name).0 same))
  go false other h e =
      let rest = h e in
      (omega (arith, rest.0), cond-false (start == at) (Some x) (name_from (start + length x + 1) names at) (ne_eqb start at (λ s. omega (arith, s, rest.0))) ∙ rest.1)

pub name_there : (t : Names) (name : List ℕ) (at : ℕ) → offset_of t name ≡ Some at → name_at t at ≡ Some name
name_there t [] at e = let first : 0 ≡ at = cc in cond-true (at == 0) (Some []) (name_from 1 t.names at) (eq-eqb at 0 (sym first))
name_there t (b ∷ name) at e =
    let there = there_from 1 t.names (b ∷ name) at e in cond-false (at == 0) (Some []) (name_from 1 t.names at) (ne_eqb at 0 (λ s. omega (arith, s, there.0))) ∙ there.1
