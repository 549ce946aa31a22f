-- The passes of a server's workers, by their numbers.
use Rattle.std.proofs.Common.{◌≡◌, ◌≢◌, ◌≤◌, ◌<◌, ◌+◌, ℕ, zero, suc, cond, List, [], ◌∷◌, ◌++◌, length, map, get_or, drop, refl, sym, ap, subst, ◌∙◌, arith}
use Rattle.std.proofs.lemmas.List.{map-append}
use Rattle.std.proofs.lemmas.Bool.{ne_eqb}
use mathlib.Core.Option.{some}
use lib.ListN.{get_elem?}
use Rattle.atomic_table.specs.Seated.{TableId}
use Rattle.turnstile.specs.declared.view.Ended.{Ended}
use Rattle.turnstile.specs.Views.{once_if, times}
use Rattle.hub.specs.Ends.{AreEnded}
use Rattle.build_server.specs.Workers.{AreRetiredFrom, badge, badges_from}

pub same_number : (g h : TableId) (m n : ℕ) → badge g m ≡ badge h n → m ≡ n
same_number g h m n e = ap (λ xs. get_or xs 0 0) e

pub same_gate : (g h : TableId) (m n : ℕ) → badge g m ≡ badge h n → g ≡ h
same_gate g h m n e = λ i. record {
  words = get_or (e i) 1 0;
  slots = get_or (e i) 2 0;
  views_name = get_or (e i) 3 0;
  atom = get_or (e i) 4 0;
  block = get_or (e i) 5 0;
  offset = get_or (e i) 6 0;
  slot_names = drop 7 (e i);
}

-- one pass more
pub one_more_badge : (gate : TableId) (number count : ℕ) → badges_from gate number (count + 1) ≡ badges_from gate number count ++ badge gate (number + count) ∷ []
one_more_badge gate number zero = ap (λ n. badge gate n ∷ []) (omega arith)
one_more_badge gate number (suc count) =
    let one : suc count + 1 ≡ suc (count + 1) = omega arith in
    ap (badges_from gate number) one
    ∙ ap (λ xs. badge gate number ∷ xs) (one_more_badge gate (number + 1) count)
    ∙ ap (λ n. badge gate number ∷ (badges_from gate (number + 1) count ++ badge gate n ∷ [])) (omega arith)

-- the badge behind others
pub badge_behind : {W : Type 0} (f : W → List ℕ) (front rest : List W) (w : W) (gate : TableId) (number count : ℕ)
    → map f (front ++ w ∷ rest) ≡ badges_from gate number count → f w ≡ badge gate (number + length front)
badge_behind f [] rest w gate number zero e = absurd cc
badge_behind f [] rest w gate number (suc count) e = first _ _ _ _ e ∙ ap (badge gate) (omega arith) where
  first : (x y : List ℕ) (xs ys : List (List ℕ)) → x ∷ xs ≡ y ∷ ys → x ≡ y
  first x y xs ys e = cc
badge_behind f (v ∷ front) rest w gate number zero e = absurd cc
badge_behind f (v ∷ front) rest w gate number (suc count) e =
    badge_behind f front rest w gate (number + 1) count (others _ _ _ _ e) ∙ ap (badge gate) (omega arith)
  where
    others : (x y : List ℕ) (xs ys : List (List ℕ)) → x ∷ xs ≡ y ∷ ys → xs ≡ ys
    others x y xs ys e = cc

-- one retired pass more
pub one_more_retired : (number : ℕ) (ended : List Ended) (e : Ended) → AreRetiredFrom number ended → e.number ≡ number + length ended → AreEnded e.calls → AreRetiredFrom number (ended ++ e ∷ [])
one_more_retired number [] e retired is calls = (is ∙ omega arith, calls, tt)
one_more_retired number (d ∷ ended) e retired is calls = (retired.0, retired.1, one_more_retired (number + 1) ended e retired.2 (is ∙ omega arith) calls)

-- each commit of each of them has ended
pub each_ended : (number : ℕ) (ended : List Ended) → AreRetiredFrom number ended → (k : ℕ) (e : Ended) → get_elem? ended k ≡ some e → AreEnded e.calls
each_ended number [] retired k e is = absurd cc
each_ended number (d ∷ ended) retired zero e is = subst (λ (x : Ended). AreEnded x.calls) (same d e is) retired.1 where
  same : (a b : Ended) → some a ≡ some b → a ≡ b
  same a b e = cc
each_ended number (d ∷ ended) retired (suc k) e is = each_ended (number + 1) ended retired.2 k e is

-- no other number is among them
pub none_below : (number : ℕ) (ended : List Ended) (n : ℕ) → AreRetiredFrom number ended → n < number → times n ended ≡ 0
none_below number [] n retired below = refl
none_below number (e ∷ ended) n retired below =
    let other : e.number ≢ n = λ is. absurd (omega (arith, retired.0, is, below)) in
    let one : once_if e.number n ≡ 0 = ap (λ b. cond b 1 0) (ne_eqb e.number n other) in
    omega (arith, one, none_below (number + 1) ended n retired.2 (omega (arith, below)))

pub none_above : (number : ℕ) (ended : List Ended) (n : ℕ) → AreRetiredFrom number ended → number + length ended ≤ n → times n ended ≡ 0
none_above number [] n retired above = refl
none_above number (e ∷ ended) n retired above =
    let other : e.number ≢ n = λ is. absurd (omega (arith, retired.0, is, above)) in
    let one : once_if e.number n ≡ 0 = ap (λ b. cond b 1 0) (ne_eqb e.number n other) in
    omega (arith, one, none_above (number + 1) ended n retired.2 (omega (arith, above)))

-- one worker more, with the next pass
pub seat_more : {W : Type 0} (f : W → List ℕ) (workers : List W) (w : W) (gate : TableId) (count : ℕ) → map f workers ≡ badges_from gate 1 count → f w ≡ badge gate (count + 1)
    → map f (workers ++ w ∷ []) ≡ badges_from gate 1 (count + 1)
seat_more f workers w gate count all is =
    map-append f workers (w ∷ []) ∙ ap (λ xs. xs ++ f w ∷ []) all ∙ ap (λ x. badges_from gate 1 count ++ x ∷ []) (is ∙ ap (badge gate) (omega arith)) ∙ sym (one_more_badge gate 1 count)

-- there are as many workers as badges
pub badge_count : {W : Type 0} (f : W → List ℕ) (workers : List W) (gate : TableId) (number count : ℕ) → map f workers ≡ badges_from gate number count → length workers ≡ count
badge_count f [] gate number zero e = refl
badge_count f [] gate number (suc count) e = absurd cc
badge_count f (w ∷ workers) gate number zero e = absurd cc
badge_count f (w ∷ workers) gate number (suc count) e = ap suc (badge_count f workers gate (number + 1) count (rest _ _ _ _ e)) where
  rest : (x y : List ℕ) (xs ys : List (List ℕ)) → x ∷ xs ≡ y ∷ ys → xs ≡ ys
  rest x y xs ys e = cc
