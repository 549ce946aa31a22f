-- One table of records: an add that was answered, and what it leaves.
use Rattle.std.proofs.Common.{◌≡◌, ◌≤◌, ◌<◌, ◌^◌, ◌+◌, ◌-◌, ◌==◌, ℕ, Bool, true, false, cond, ltb, List, [], ◌∷◌, ◌++◌, length, Option, Some, None, Ok, Err, ◌⊎◌, inl, inr, ⊎_elim, refl, sym, ap, ◌∙◌, subst, arith, length-append}
use Rattle.std.specs.Prelude.{◌&&◌, is_ok, is_none}
use Rattle.std.specs.List.{slice_get}
use Rattle.std.specs.Option.{option_map, unwrap_or}
use Rattle.std.proofs.lemmas.Bool.{cond-true, cond-false, eq-eqb, le-ltb, ne_eqb, ltb-true, ltb-false}
use Rattle.std.proofs.lemmas.List.{append-nil}
use Rattle.srv_edge.specs.Records.{joined}
use Rattle.record_table.specs.declared.fault.AddFault.TheVariants.{Records, Bytes}
use Rattle.record_table.specs.Table.{Table, WithinLimits, after_add, answer_to_add, answer_to_new, appended, bytes_in, index_at, index_of, place_of, record_at}
use Rattle.table_model.proofs.Counting.{place_of-within}
use Rattle.table_model.proofs.Searching.{found_behind, found_there, place_on}

-- adds

same_index : (o : Option ℕ) (at : ℕ) → option_map index_at o ≡ Some at → (p : ℕ) × (o ≡ Some p) × (at ≡ 4096 + p)
same_index None at e = absurd (grind arith)
same_index (Some p) at e = (p, refl, grind arith)

-- the record becomes the last
pub record IsLast (t : Table) (r : List ℕ) (at : ℕ) : Type 0 where
  pub new : index_of t r ≡ None
  pub end : at ≡ index_at (length t.records)
  pub few : length t.records < t.max_records
  pub short : bytes_in t + length r ≤ t.max_bytes

-- how an add was answered with an index: an equal record has it, or the record becomes the last
pub add_cases : (t : Table) (r : List ℕ) (at : ℕ) → answer_to_add t r ≡ Ok at → (index_of t r ≡ Some at) ⊎ IsLast t r at
add_cases t r at e = go (index_of t r) refl e where
  last : (a b : Bool) → ltb (length t.records) t.max_records ≡ a → ltb t.max_bytes (bytes_in t + length r) ≡ b → index_of t r ≡ None →
      cond a (cond b (Err (Bytes (bytes_in t + length r))) (Ok (index_at (length t.records)))) (Err Records) ≡ Ok at → IsLast t r at
  last false b p q new e = absurd (grind arith)
  last true true p q new e = absurd (grind arith)
  last true false p q new e = record { new = new; end = grind arith; few = ltb-true (length t.records) t.max_records p; short = ltb-false t.max_bytes (bytes_in t + length r) q }

  go : (o : Option ℕ) → index_of t r ≡ o → unwrap_or (option_map Ok o) (answer_to_new t r) ≡ Ok at → (index_of t r ≡ Some at) ⊎ IsLast t r at
  go (Some i) is e = let same : i ≡ at = grind arith in inl (is ∙ ap Some same)
  go None is e = inr (last (ltb (length t.records) t.max_records) (ltb t.max_bytes (bytes_in t + length r)) refl refl is e)

-- an index of the table is below the next
old_below : (t : Table) (r : List ℕ) (at : ℕ) → index_of t r ≡ Some at → at < index_at (length t.records)
old_below t r at e =
    let p = same_index (place_of t.records r) at e in
    let l : p.0 < length t.records = place_of-within t.records r p.0 p.1 in
    omega arith

-- what stands at an index that was found
pub record_there : (t : Table) (r : List ℕ) (at : ℕ) → index_of t r ≡ Some at → record_at t at ≡ Some r
record_there t r at e =
    let p = same_index (place_of t.records r) at e in
    let place : at - 4096 ≡ p.0 = omega (arith, p.2) in
    cond-false (ltb at 4096) None (slice_get t.records (at - 4096)) (le-ltb at 4096 (omega (arith, p.2))) ∙ ap (slice_get t.records) place ∙ found_there t.records r p.0 p.1

-- the table with the record, where its index is the next
abbrev pub grown : Table → ℕ → List ℕ → Table
grown t at r = cond (at == index_at (length t.records)) (appended t r) t

grown_old : (t : Table) (r : List ℕ) (at : ℕ) → index_of t r ≡ Some at → grown t at r ≡ t
grown_old t r at e = let l = old_below t r at e in cond-false (at == index_at (length t.records)) (appended t r) t (ne_eqb at (index_at (length t.records)) (λ s. omega arith))

grown_last : (t : Table) (r : List ℕ) (at : ℕ) → IsLast t r at → grown t at r ≡ appended t r
grown_last t r at last = cond-true (at == index_at (length t.records)) (appended t r) t (eq-eqb at (index_at (length t.records)) last.end)

-- an answered add leaves the table that grew so
pub after_answered : (t : Table) (r : List ℕ) (at : ℕ) → answer_to_add t r ≡ Ok at → after_add t r ≡ grown t at r
after_answered t r at e = ⊎_elim (λ (o : index_of t r ≡ Some at). after_old o ∙ sym (grown_old t r at o)) (λ (l : IsLast t r at). after_last l ∙ sym (grown_last t r at l)) (add_cases t r at e) where
  after_old : index_of t r ≡ Some at → after_add t r ≡ t
  after_old o = ap (λ i. cond (is_none i && is_ok (answer_to_new t r)) (appended t r) t) o

  after_last : IsLast t r at → after_add t r ≡ appended t r
  after_last l = grind (arith, l.new, e)

pub length-joined : (records : List (List ℕ)) (r : List ℕ) → length (joined (records ++ r ∷ [])) ≡ length (joined records) + length r
length-joined [] r = simp append-nil (omega arith)
length-joined (x ∷ records) r = omega (arith, length-append x (joined (records ++ r ∷ [])), length-append x (joined records), length-joined records r)

-- it is within its limits, as it was
pub within_grown : (t : Table) (r : List ℕ) (at : ℕ) → answer_to_add t r ≡ Ok at → WithinLimits t → WithinLimits (grown t at r)
within_grown t r at e w = ⊎_elim (λ (o : index_of t r ≡ Some at). subst WithinLimits (sym (grown_old t r at o)) w) (λ (l : IsLast t r at). subst WithinLimits (sym (grown_last t r at l)) (more l)) (add_cases t r at e) where
  more : IsLast t r at → WithinLimits (appended t r)
  more l = record { few = simp length-append (omega (arith, l.few)); short = rw length-joined l.short }

-- the index has 32 bits
pub small_index : (t : Table) (r : List ℕ) (at : ℕ) → answer_to_add t r ≡ Ok at → WithinLimits t → t.max_records ≤ 2 ^ 23 → at < 2 ^ 32
small_index t r at e w few = ⊎_elim (λ (o : index_of t r ≡ Some at). let l = old_below t r at o in omega (arith, w.few)) (λ (l : IsLast t r at). omega (arith, l.end, l.few)) (add_cases t r at e)

-- an index stays
pub index_stays : (t : Table) (s r : List ℕ) (at other : ℕ) → index_of t r ≡ Some at → index_of (grown t other s) r ≡ Some at
index_stays t s r at other e = go (other == index_at (length t.records)) where
  kept : index_of (appended t s) r ≡ Some at
  kept = let p = same_index (place_of t.records r) at e in ap (option_map index_at) (place_on t.records (s ∷ []) r p.0 p.1) ∙ ap Some (sym p.2)

  go : (b : Bool) → index_of (cond b (appended t s) t) r ≡ Some at
  go true = kept
  go false = e

-- an answered add leaves its record at its index
pub index_after : (t : Table) (r : List ℕ) (at : ℕ) → answer_to_add t r ≡ Ok at → index_of (grown t at r) r ≡ Some at
index_after t r at e = ⊎_elim (λ (o : index_of t r ≡ Some at). index_stays t r r at at o) (λ (l : IsLast t r at). rw (grown_last t r at l) (new l)) (add_cases t r at e) where
  no_place : (o : Option ℕ) → option_map index_at o ≡ None → o ≡ None
  no_place None n = refl
  no_place (Some p) n = absurd (grind arith)

  new : IsLast t r at → index_of (appended t r) r ≡ Some at
  new l = ap (option_map index_at) (found_behind t.records [] r (no_place (place_of t.records r) l.new)) ∙ ap Some (sym l.end)

-- why an add was refused

pub no_records : (t : Table) (r : List ℕ) → answer_to_add t r ≡ Err Records → t.max_records ≤ length t.records
no_records t r e = grind arith

pub no_bytes : (t : Table) (r : List ℕ) (needed : ℕ) → answer_to_add t r ≡ Err (Bytes needed) → (length t.records < t.max_records) × (t.max_bytes < bytes_in t + length r)
no_bytes t r needed e = grind arith
