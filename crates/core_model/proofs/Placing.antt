-- Where an add puts a record or a name in a list, and where the final list that goes on from there has it.
use Rattle.std.proofs.Common.{◌≡◌, ◌≤◌, ◌<◌, ◌+◌, ◌-◌, ◌==◌, ℕ, zero, suc, Bool, true, false, cond, eqb, ltb, eq-eqb, ne_eqb, List, [], ◌∷◌, ◌++◌, length, length-append, take, Option, Some, None, option_and_then, ⊎_elim, refl, sym, ap, subst, ◌∙◌, arith}
use Rattle.std.specs.Prelude.{◌&&◌, not}
use Rattle.std.specs.List.{slice_get}
use Rattle.std.specs.Option.{option_map, unwrap_or}
use Rattle.std.specs.Str.{bytes_eq}
use Rattle.std.proofs.lemmas.Bool.{cond-false, cond-true, ltb-false}
use Rattle.std.proofs.lemmas.Bool.Decides.{eqb_tells, nat_tests}
use Rattle.std.proofs.lemmas.List.{append_assoc, take_all, take-append-le}
use Rattle.record_table.specs.Table.{index_at, place_of}
use Rattle.names_table.specs.Names.{bytes_of, offset_from}
use Rattle.core_model.specs.Cuts.{StartsWith}
use Rattle.core_model.specs.Steps.{count_with, is_first, is_place, place_fits, place_of_index, place_of_offset}
use Rattle.table_model.proofs.Counting.{place_of-within, some-bytes}
use Rattle.table_model.proofs.Searching.{found_behind, found_first, found_there, place_behind, place_on}

-- a test that holds, of two numbers
pub equal : (a b : ℕ) → eqb a b ≡ true → a ≡ b
equal a b e = ⊎_elim (λ t. t.1) (λ f. absurd (let z : false ≡ true = sym f.0 ∙ e in cc)) (eqb_tells a b)

-- the place of the first equal one, or the next
abbrev pub place_for : List (List ℕ) → List ℕ → ℕ
place_for list r = unwrap_or (place_of list r) (length list)

-- the list with it, where its place is the next
abbrev pub with_at : List (List ℕ) → ℕ → List ℕ → List (List ℕ)
with_at list p r = cond (p == length list) (list ++ r ∷ []) list

-- What an add gave this place in a list, and where the final list has it.
pub record Placed (list final : List (List ℕ)) (r : List ℕ) (p : ℕ) : Type 0 where
  pub place : place_for list r ≡ p
  pub begins : StartsWith (with_at list p r) final
  pub within : p ≤ length list
  pub there : place_of final r ≡ Some p

with_at-old : (list : List (List ℕ)) (p : ℕ) (r : List ℕ) → p < length list → with_at list p r ≡ list
with_at-old list p r old = cond-false (p == length list) (list ++ r ∷ []) list (ne_eqb p (length list) (λ e. omega arith))

with_at-next : (list : List (List ℕ)) (p : ℕ) (r : List ℕ) → p ≡ length list → with_at list p r ≡ list ++ r ∷ []
with_at-next list p r next = cond-true (p == length list) (list ++ r ∷ []) list (eq-eqb p (length list) next)

pub placed : (list final : List (List ℕ)) (r : List ℕ) (p : ℕ) → place_for list r ≡ p → StartsWith (with_at list p r) final → Placed list final r p
placed list final r p is s = go (place_of list r) refl is where
  go : (o : Option ℕ) → place_of list r ≡ o → unwrap_or o (length list) ≡ p → Placed list final r p
  go (Some q) e same =
      let found : place_of list r ≡ Some p = e ∙ ap Some same in
      let within : p < length list = place_of-within list r p found in
      record {
        place = is;
        begins = s;
        within = omega arith;
        there = ap (λ z. place_of z r) (s.1 ∙ ap (λ z. z ++ s.0) (with_at-old list p r within)) ∙ place_on list s.0 r p found;
      }
  go None e same =
      let on : final ≡ list ++ (r ∷ s.0) = s.1 ∙ ap (λ z. z ++ s.0) (with_at-next list p r (sym same)) ∙ append_assoc list (r ∷ []) s.0 in
      record {
        place = is;
        begins = s;
        within = omega arith;
        there = ap (λ z. place_of z r) on ∙ found_behind list s.0 r e ∙ ap Some same;
      }

-- How the code tests a place.

same_place : (o : Option ℕ) (p : ℕ) → is_place p o ≡ true → o ≡ Some p
same_place None p e = absurd cc
same_place (Some q) p e = ap Some (equal q p e)

first_parts : (final : List (List ℕ)) (p : ℕ) → is_first final p ≡ true → (r : List ℕ) × (place_of final r ≡ Some p)
first_parts final p e = go (slice_get final p) e where
  go : (o : Option (List ℕ)) → is_place p (option_and_then (place_of final) o) ≡ true → (r : List ℕ) × (place_of final r ≡ Some p)
  go None e = absurd cc
  go (Some r) e = (r, same_place (place_of final r) p e)

both_tests : (a b : Bool) → (not a && b) ≡ true → (a ≡ false) × (b ≡ true)
both_tests true b e = absurd cc
both_tests false b e = (refl, e)

-- it lets pass what was placed
pub placed_fits : (list final : List (List ℕ)) (r : List ℕ) (p count : ℕ) → count ≡ length list → Placed list final r p → place_fits final count (Some p) ≡ true
placed_fits list final r p count same k =
    let within : p ≤ length list = k.within in
    let below : ltb count p ≡ false = grind (arith, nat_tests) in
    let first : is_first final p ≡ true = ap (λ o. is_place p (option_and_then (place_of final) o)) (found_there final r p k.there) ∙ ap (is_place p) k.there ∙ eq-eqb p p refl in
    ap (λ b. not b && is_first final p) below ∙ first

-- where the final list has it at a place of this list or the next, it was placed there
placed_there : (list final : List (List ℕ)) (r : List ℕ) (p : ℕ) → StartsWith list final → p ≤ length list → place_of final r ≡ Some p → Placed list final r p
placed_there list final r p s within there = go (place_of list r) refl where
  on : place_of (list ++ s.0) r ≡ Some p
  on = ap (λ z. place_of z r) (sym s.1) ∙ there

  behind : place_of list r ≡ None → (o : Option ℕ) → place_of s.0 r ≡ o → option_map (λ place. length list + place) o ≡ Some p → Placed list final r p
  behind new None first e = absurd cc
  behind new (Some k) first e =
      let sum : length list + k ≡ p = cc in
      let zeroth : k ≡ 0 = omega arith in
      let next : p ≡ length list = omega arith in
      let more = found_first s.0 r (first ∙ ap Some zeroth) in
      let begins : StartsWith (list ++ r ∷ []) final = (more.0, s.1 ∙ ap (λ z. list ++ z) more.1 ∙ sym (append_assoc list (r ∷ []) more.0)) in
      record {
        place = ap (λ o. unwrap_or o (length list)) new ∙ sym next;
        begins = subst (λ z. StartsWith z final) (sym (with_at-next list p r next)) begins;
        within = within;
        there = there;
      }

  go : (o : Option ℕ) → place_of list r ≡ o → Placed list final r p
  go (Some q) known =
      let kept : place_of (list ++ s.0) r ≡ Some q = place_on list s.0 r q known in
      let same : q ≡ p = cc in
      let old : p < length list = place_of-within list r p (known ∙ ap Some same) in
      record {
        place = ap (λ o. unwrap_or o (length list)) known ∙ same;
        begins = subst (λ z. StartsWith z final) (sym (with_at-old list p r old)) s;
        within = within;
        there = there;
      }
  go None known = behind known (place_of s.0 r) refl (sym (place_behind list s.0 r known) ∙ on)

-- and what it lets pass was placed
pub fits_placed : (list final : List (List ℕ)) (p count : ℕ) → count ≡ length list → StartsWith list final → place_fits final count (Some p) ≡ true → (r : List ℕ) × Placed list final r p
fits_placed list final p count same s e =
    let tests = both_tests (ltb count p) (is_first final p) e in
    let within : p ≤ length list = omega (arith, ltb-false count p tests.0) in
    let found = first_parts final p tests.1 in
    (found.0, placed_there list final found.0 p s within found.1)

-- how many are there then
pub placed_count : (list : List (List ℕ)) (r : List ℕ) (p : ℕ) → count_with (length list) (Some p) ≡ length (with_at list p r)
placed_count list r p = go (p == length list) where
  go : (b : Bool) → cond b (length list + 1) (length list) ≡ length (cond b (list ++ r ∷ []) list)
  go true = sym (length-append list (r ∷ []))
  go false = refl

-- Indices and offsets.

pub index_of-place : (list : List (List ℕ)) (r : List ℕ) → unwrap_or (option_map index_at (place_of list r)) (index_at (length list)) ≡ index_at (place_for list r)
index_of-place list r = go (place_of list r) where
  go : (o : Option ℕ) → unwrap_or (option_map index_at o) (index_at (length list)) ≡ index_at (unwrap_or o (length list))
  go None = refl
  go (Some p) = refl

pub place_of_index-at : (p : ℕ) → place_of_index (index_at p) ≡ Some p
place_of_index-at p =
    let above : ltb (4096 + p) 4096 ≡ false = grind (arith, nat_tests) in
    let same : 4096 + p - 4096 ≡ p = omega arith in
    ap (λ b. cond b None (Some (4096 + p - 4096))) above ∙ ap Some same

pub index_at-place : (at p : ℕ) → place_of_index at ≡ Some p → at ≡ index_at p
index_at-place at p e = go (ltb at 4096) refl e where
  go : (b : Bool) → ltb at 4096 ≡ b → cond b None (Some (at - 4096)) ≡ Some p → at ≡ index_at p
  go true low e = absurd cc
  go false high e = let is : at - 4096 ≡ p = cc in omega (arith, ltb-false at 4096 high)

-- the tests of the next index and of the next place
pub same_index_test : (p n at : ℕ) → at ≡ index_at p → (at == index_at n) ≡ (p == n)
same_index_test p n at e =
    ⊎_elim (λ t. eq-eqb at (index_at n) (omega (arith, t.1)) ∙ sym t.0) (λ f. ne_eqb at (index_at n) (λ s. f.1 (omega arith)) ∙ sym f.0) (eqb_tells p n)

-- the first equal name begins where the names before it end
offset_by_place : (s : ℕ) (names : List (List ℕ)) (name : List ℕ) → offset_from (s + 1) names name ≡ option_map (λ p. s + bytes_of (take p names)) (place_of names name)
offset_by_place s [] name = refl
offset_by_place s (x ∷ names) name = go (bytes_eq x name) (place_of names name) (offset_by_place (s + 1 + length x) names name) where
  go : (t : Bool) (o : Option ℕ) → offset_from (s + 1 + length x + 1) names name ≡ option_map (λ p. s + 1 + length x + bytes_of (take p names)) o
      → cond t (Some (s + 1)) (offset_from (s + 1 + length x + 1) names name) ≡ option_map (λ p. s + bytes_of (take p (x ∷ names))) (cond t (Some 0) (option_map (λ place. place + 1) o))
  go true o h = refl
  go false None h = h
  go false (Some q) h =
      let next : q + 1 ≡ suc q = omega arith in
      let same : s + 1 + length x + bytes_of (take q names) ≡ s + bytes_of (take (suc q) (x ∷ names)) = omega arith in
      rw next (h ∙ ap Some same)

pub offset_of-place : (names : List (List ℕ)) (name : List ℕ) → unwrap_or (offset_from 1 names name) (bytes_of names) ≡ bytes_of (take (place_for names name) names)
offset_of-place names name = ap (λ o. unwrap_or o (bytes_of names)) (offset_by_place 0 names name) ∙ go (place_of names name) where
  go : (o : Option ℕ) → unwrap_or (option_map (λ p. 0 + bytes_of (take p names)) o) (bytes_of names) ≡ bytes_of (take (unwrap_or o (length names)) names)
  go None = ap bytes_of (sym (take_all (length names) names (omega arith)))
  go (Some p) = omega arith

-- the name at a place begins where the names before it end
place_at_offset : (s : ℕ) (names : List (List ℕ)) (p : ℕ) (c : ℕ) (cs : List ℕ) (at : ℕ) → slice_get names p ≡ Some (c ∷ cs) → at ≡ s + bytes_of (take p names) → place_of_offset (s + 1) names at ≡ Some p
place_at_offset s [] p c cs at there e = absurd cc
place_at_offset s (x ∷ names) zero c cs at there e =
    let is : x ≡ c ∷ cs = cc in
    let some : eqb (length x) 0 ≡ false = ap (λ z. eqb (length z) 0) is ∙ ne_eqb (length (c ∷ cs)) 0 (λ s. omega (arith, s)) in
    ap (λ b. cond b (cond (eqb (length x) 0) None (Some 0)) (option_map (λ place. place + 1) (place_of_offset (s + 1 + length x + 1) names at))) (eq-eqb (s + 1) at (omega arith))
    ∙ ap (λ b. cond {A = Option ℕ} b None (Some 0)) some
place_at_offset s (x ∷ names) (suc p) c cs at there e =
    let next : p + 1 ≡ suc p = omega arith in
    ap (λ b. cond b (cond (eqb (length x) 0) None (Some 0)) (option_map (λ place. place + 1) (place_of_offset (s + 1 + length x + 1) names at))) (ne_eqb (s + 1) at (λ s. omega (arith, s, e, some-bytes (take p names))))
    ∙ ap (option_map (λ place. place + 1)) (place_at_offset (s + 1 + length x) names p c cs at there (omega (arith, e))) ∙ ap Some next

pub place_of_offset-at : (names : List (List ℕ)) (p c : ℕ) (cs : List ℕ) → slice_get names p ≡ Some (c ∷ cs) → place_of_offset 1 names (bytes_of (take p names)) ≡ Some p
place_of_offset-at names p c cs there = place_at_offset 0 names p c cs (bytes_of (take p names)) there (omega arith)

-- a name that is not empty stands at a place, and begins at an offset
pub record IsNameAt (s : ℕ) (names : List (List ℕ)) (at p : ℕ) : Type 0 where
  pub first : ℕ
  pub others : List ℕ
  pub there : slice_get names p ≡ Some (first ∷ others)
  pub begins : at ≡ s + bytes_of (take p names)

pub name_at_offset : (s : ℕ) (names : List (List ℕ)) (at p : ℕ) → place_of_offset (s + 1) names at ≡ Some p → IsNameAt s names at p
name_at_offset s [] at p e = absurd cc
name_at_offset s (x ∷ names) at p e = go (eqb (s + 1) at) refl (place_of_offset (s + 1 + length x + 1) names at) (λ q f. name_at_offset (s + 1 + length x) names at q f) e where
  here : (y : List ℕ) → x ≡ y → s + 1 ≡ at → (b : Bool) → eqb (length x) 0 ≡ b → cond b None (Some 0) ≡ Some p → IsNameAt s (x ∷ names) at p
  here y is same true none e = absurd cc
  here [] is same false some e = absurd (let z : true ≡ false = sym (eq-eqb (length x) 0 (ap length is)) ∙ some in cc)
  here (c ∷ cs) is same false some e =
      let zeroth : 0 ≡ p = cc in
      subst (IsNameAt s (x ∷ names) at) zeroth (record { first = c; others = cs; there = ap Some is; begins = sym same })

  go : (b : Bool) → eqb (s + 1) at ≡ b → (o : Option ℕ) → ((q : ℕ) → o ≡ Some q → IsNameAt (s + 1 + length x) names at q)
      → cond b (cond (eqb (length x) 0) None (Some 0)) (option_map (λ place. place + 1) o) ≡ Some p → IsNameAt s (x ∷ names) at p
  go true same o h e = here x refl (equal (s + 1) at same) (eqb (length x) 0) refl e
  go false other None h e = absurd cc
  go false other (Some q) h e =
      let next : suc q ≡ p = let k : q + 1 ≡ p = cc in omega arith in
      let i = h q refl in
      let begins : at ≡ s + bytes_of (take (suc q) (x ∷ names)) = omega (arith, i.begins) in
      subst (IsNameAt s (x ∷ names) at) next (record { first = i.first; others = i.others; there = i.there; begins = begins })

-- the names before a place take fewer bytes than all
bytes_of-take : (names : List (List ℕ)) (p : ℕ) → p < length names → bytes_of (take p names) < bytes_of names
bytes_of-take [] p within = absurd (omega arith)
bytes_of-take (x ∷ names) zero within = omega (arith, some-bytes names)
bytes_of-take (x ∷ names) (suc p) within = omega (arith, bytes_of-take names p (omega arith))

-- the tests of the next offset and of the next place
pub same_offset_test : (names : List (List ℕ)) (p at : ℕ) → p ≤ length names → at ≡ bytes_of (take p names) → (at == bytes_of names) ≡ (p == length names)
same_offset_test names p at within e =
    ⊎_elim (λ t. eq-eqb at (bytes_of names) (e ∙ ap bytes_of (take_all p names (omega (arith, t.1)))) ∙ sym t.0)
    (λ f. let old : p < length names = grind (arith, f.1) in ne_eqb at (bytes_of names) (λ s. omega (arith, bytes_of-take names p old)) ∙ sym f.0)
    (eqb_tells p (length names))

-- the names before a place are those of the final list
pub take-begun : (list final : List (List ℕ)) (p : ℕ) → StartsWith list final → p ≤ length list → take p final ≡ take p list
take-begun list final p s within = ap (take p) s.1 ∙ take-append-le p list s.0 within

-- the final list goes on from the one that grew, and so from this one
pub begun_before : (list final : List (List ℕ)) (r : List ℕ) (p : ℕ) → StartsWith (with_at list p r) final → StartsWith list final
begun_before list final r p s = go (p == length list) s where
  go : (b : Bool) → StartsWith (cond b (list ++ r ∷ []) list) final → StartsWith list final
  go true s = (r ∷ s.0, s.1 ∙ append_assoc list (r ∷ []) s.0)
  go false s = s
