-- Searches from the front.
use Rattle.std.proofs.Common.{◌≡◌, ◌<◌, ◌+◌, ℕ, zero, suc, Bool, true, false, cond, List, [], ◌∷◌, ◌++◌, length, get_or, take, Option, Some, None, refl, ap, subst, ◌∙◌, arith}
use Rattle.std.specs.List.{slice_get}
use Rattle.std.specs.Option.{option_map}
use Rattle.std.specs.Str.{bytes_eq}
use Rattle.std.proofs.lemmas.Slice.Eq.{bytes_eq-Decides}
use Rattle.std.proofs.lemmas.Option.{slice_get_read}
use Rattle.record_table.specs.Table.{place_of}

-- none among a record and those behind it, by the two
none_split : (b : Bool) (o : Option ℕ) → cond b (Some 0) (option_map (λ place. place + 1) o) ≡ None → (b ≡ false) × (o ≡ None)
none_split true o e = absurd cc
none_split false None e = (refl, refl)
none_split false (Some x) e = absurd cc

-- at a record that equals it, behind others that do not
pub place_of-here : (records : List (List ℕ)) (i : ℕ) (x r : List ℕ) → place_of (take i records) r ≡ None → slice_get records i ≡ Some x → bytes_eq x r ≡ true → place_of records r ≡ Some i
place_of-here [] i x r none at same = absurd cc
place_of-here (y ∷ records) zero x r none at same =
    let e : y ≡ x = cc in
    ap (λ b. cond b (Some 0) (option_map (λ place. place + 1) (place_of records r))) (ap (λ z. bytes_eq z r) e ∙ same)
place_of-here (y ∷ records) (suc i) x r none at same =
    let n = none_split (bytes_eq y r) (place_of (take i records) r) none in
    let next : i + 1 ≡ suc i = omega arith in
    ap (λ b. cond b (Some 0) (option_map (λ place. place + 1) (place_of records r))) n.0
    ∙ ap (option_map (λ place. place + 1)) (place_of-here records i x r n.1 at same) ∙ ap Some next

-- a record further
pub place_of-further : (records : List (List ℕ)) (i : ℕ) (x r : List ℕ) → place_of (take i records) r ≡ None → slice_get records i ≡ Some x → bytes_eq x r ≡ false → place_of (take (i + 1) records) r ≡ None
place_of-further [] i x r none at other = absurd cc
place_of-further (y ∷ records) zero x r none at other =
    let e : y ≡ x = cc in
    ap (λ b. cond {A = Option ℕ} b (Some 0) None) (ap (λ z. bytes_eq z r) e ∙ other)
place_of-further (y ∷ records) (suc i) x r none at other =
    let n = none_split (bytes_eq y r) (place_of (take i records) r) none in
    let next : suc i + 1 ≡ suc (i + 1) = omega arith in
    ap (λ k. place_of (take k (y ∷ records)) r) next
    ∙ ap (λ b. cond b (Some 0) (option_map (λ place. place + 1) (place_of (take (i + 1) records) r))) n.0
    ∙ ap (option_map (λ place. place + 1)) (place_of-further records i x r n.1 at other)

-- the name that an index reads
pub name-here : (names : List (List ℕ)) (i : ℕ) (x : List ℕ) → i < length names → x ≡ get_or names i x → slice_get names i ≡ Some x
name-here names i x within at = slice_get_read names (length names) i x refl within at

-- Searches in a list that goes on.

-- a place stays
pub place_on : (a b : List (List ℕ)) (r : List ℕ) (p : ℕ) → place_of a r ≡ Some p → place_of (a ++ b) r ≡ Some p
place_on [] b r p e = absurd cc
place_on (x ∷ a) b r p e = go (bytes_eq x r) (place_of a r) (place_of (a ++ b) r) (λ q f. place_on a b r q f) e where
  go : (t : Bool) (o n : Option ℕ) → ((q : ℕ) → o ≡ Some q → n ≡ Some q) → cond t (Some 0) (option_map (λ place. place + 1) o) ≡ Some p → cond t (Some 0) (option_map (λ place. place + 1) n) ≡ Some p
  go true o n h e = e
  go false None n h e = absurd cc
  go false (Some q) n h e = rw (h q refl) e

-- what is not in the list has its place behind it
pub place_behind : (a b : List (List ℕ)) (r : List ℕ) → place_of a r ≡ None → place_of (a ++ b) r ≡ option_map (λ place. length a + place) (place_of b r)
place_behind [] b r e = go (place_of b r) where
  go : (o : Option ℕ) → o ≡ option_map (λ place. 0 + place) o
  go None = refl
  go (Some p) = ap Some (omega arith)
place_behind (x ∷ a) b r e = go (bytes_eq x r) (place_of a r) (place_of b r) (place_of (a ++ b) r) (place_behind a b r) e where
  go : (t : Bool) (o m n : Option ℕ) → (o ≡ None → n ≡ option_map (λ place. length a + place) m) → cond t (Some 0) (option_map (λ place. place + 1) o) ≡ None
      → cond t (Some 0) (option_map (λ place. place + 1) n) ≡ option_map (λ place. length (x ∷ a) + place) m
  go true o m n h e = absurd cc
  go false (Some q) m n h e = absurd cc
  go false None None n h e = rw (h refl) refl
  go false None (Some q) n h e = rw (h refl) (ap Some (omega arith))

-- a record behind a list that does not have it
pub found_behind : (a b : List (List ℕ)) (r : List ℕ) → place_of a r ≡ None → place_of (a ++ r ∷ b) r ≡ Some (length a)
found_behind a b r e =
    let first : place_of (r ∷ b) r ≡ Some 0 = ap (λ t. cond t (Some 0) (option_map (λ place. place + 1) (place_of b r))) ((bytes_eq-Decides r r).1 refl) in
    let end : length a + 0 ≡ length a = omega arith in
    place_behind a (r ∷ b) r e ∙ ap (option_map (λ place. length a + place)) first ∙ ap Some end

-- what stands at the first place
pub found_first : (b : List (List ℕ)) (r : List ℕ) → place_of b r ≡ Some 0 → (more : List (List ℕ)) × (b ≡ r ∷ more)
found_first [] r e = absurd cc
found_first (x ∷ b) r e = go (bytes_eq x r) refl (place_of b r) e where
  go : (t : Bool) → bytes_eq x r ≡ t → (o : Option ℕ) → cond t (Some 0) (option_map (λ place. place + 1) o) ≡ Some 0 → (more : List (List ℕ)) × (x ∷ b ≡ r ∷ more)
  go true same o e = (b, ap (λ z. z ∷ b) ((bytes_eq-Decides x r).0 same))
  go false other None e = absurd cc
  go false other (Some q) e = let next : q + 1 ≡ 0 = cc in absurd (omega arith)

-- what stands at a place that was found
pub found_there : (a : List (List ℕ)) (r : List ℕ) (p : ℕ) → place_of a r ≡ Some p → slice_get a p ≡ Some r
found_there [] r p e = absurd cc
found_there (x ∷ a) r p e = go (bytes_eq x r) refl (place_of a r) (λ q f. found_there a r q f) e where
  go : (t : Bool) → bytes_eq x r ≡ t → (o : Option ℕ) → ((q : ℕ) → o ≡ Some q → slice_get a q ≡ Some r) → cond t (Some 0) (option_map (λ place. place + 1) o) ≡ Some p → slice_get (x ∷ a) p ≡ Some r
  go true same o h e = let zeroth : 0 ≡ p = cc in subst (λ k. slice_get (x ∷ a) k ≡ Some r) zeroth (ap Some ((bytes_eq-Decides x r).0 same))
  go false other None h e = absurd cc
  go false other (Some q) h e =
      let next : q + 1 ≡ p = cc in
      let after : suc q ≡ p = omega arith in
      subst (λ k. slice_get (x ∷ a) k ≡ Some r) after (h q refl)
