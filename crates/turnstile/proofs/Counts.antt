-- Sums over all views, when one of them changes or one comes.
use Rattle.std.proofs.Common.{◌≡◌, ◌≢◌, ℕ, zero, suc, ◌+◌, ◌<◌, ◌≤◌, List, [], ◌∷◌, ◌++◌, set, sym, refl, ap, eq-eqb, ne_eqb, cond, arith, ◌∙◌}
use mathlib.Core.Option.{some, some-injective, some-ne-none}
use lib.ListN.{get_elem?}
use Rattle.turnstile.specs.declared.view.Ended.{Ended}
use Rattle.turnstile.specs.declared.view.View.{View}
use Rattle.turnstile.specs.Views.{total, once_if, times}

pub once_yes : (a b : ℕ) → a ≡ b → once_if a b ≡ 1
once_yes a b e = ap (λ c. cond c 1 0) (eq-eqb a b e)

pub once_no : (a b : ℕ) → a ≢ b → once_if a b ≡ 0
once_no a b n = ap (λ c. cond c 1 0) (ne_eqb a b n)

-- the sum, when the view i becomes w
pub total_set : (f : View → ℕ) (vs : List View) (i : ℕ) (v w : View) → get_elem? vs i ≡ some v → total f (set vs i w) + f v ≡ total f vs + f w
total_set f [] i v w e = absurd (some-ne-none v (sym e))
total_set f (x ∷ xs) zero v w e = let a : f x ≡ f v = ap f (some-injective x v e) in omega arith
total_set f (x ∷ xs) (suc i) v w e = let h : total f (set xs i w) + f v ≡ total f xs + f w = total_set f xs i v w e in omega arith

pub total_same : (f : View → ℕ) (vs : List View) (i : ℕ) (v w : View) → get_elem? vs i ≡ some v → f w ≡ f v → total f (set vs i w) ≡ total f vs
total_same f vs i v w e s = let h = total_set f vs i v w e in omega arith

-- the sum, when the view w comes
pub total_snoc : (f : View → ℕ) (vs : List View) (w : View) → total f (vs ++ w ∷ []) ≡ total f vs + f w
total_snoc f [] w = omega arith
total_snoc f (x ∷ xs) w = let h : total f (xs ++ w ∷ []) ≡ total f xs + f w = total_snoc f xs w in omega arith

-- the share of a view is at most the sum
pub share : (f : View → ℕ) (vs : List View) (i : ℕ) (v : View) → get_elem? vs i ≡ some v → f v ≤ total f vs
share f [] i v e = absurd (some-ne-none v (sym e))
share f (x ∷ xs) zero v e = let a : f x ≡ f v = ap f (some-injective x v e) in omega arith
share f (x ∷ xs) (suc i) v e = let h : f v ≤ total f xs = share f xs i v e in omega arith

-- and so are the shares of two views together
pub shares : (f : View → ℕ) (vs : List View) (i j : ℕ) (v w : View) → i ≢ j → get_elem? vs i ≡ some v → get_elem? vs j ≡ some w → f v + f w ≤ total f vs
shares f [] i j v w n e d = absurd (some-ne-none v (sym e))
shares f (x ∷ xs) zero zero v w n e d = absurd (n refl)
shares f (x ∷ xs) zero (suc j) v w n e d = let a : f x ≡ f v = ap f (some-injective x v e) in let h : f w ≤ total f xs = share f xs j w d in omega arith
shares f (x ∷ xs) (suc i) zero v w n e d = let a : f x ≡ f w = ap f (some-injective x w d) in let h : f v ≤ total f xs = share f xs i v e in omega arith
shares f (x ∷ xs) (suc i) (suc j) v w n e d = let h : f v + f w ≤ total f xs = shares f xs i j v w (λ k. n (ap suc k)) e d in omega arith

-- where each share is at most another's, so is the sum
pub total_le : (f g : View → ℕ) (vs : List View) → ((j : ℕ) (v : View) → get_elem? vs j ≡ some v → f v ≤ g v) → total f vs ≤ total g vs
total_le f g [] each = omega arith
total_le f g (x ∷ xs) each =
    let a : f x ≤ g x = each 0 x refl in
    let h : total f xs ≤ total g xs = total_le f g xs (λ j v e. each (suc j) v e) in
    omega arith

-- and less where one is less
pub total_less : (f g : View → ℕ) (vs : List View) (i : ℕ) (v : View) → ((j : ℕ) (u : View) → get_elem? vs j ≡ some u → f u ≤ g u) → get_elem? vs i ≡ some v → f v < g v → total f vs < total g vs
total_less f g [] i v each e l = absurd (some-ne-none v (sym e))
total_less f g (x ∷ xs) zero v each e l =
    let a : f x ≡ f v = ap f (some-injective x v e) in
    let b : g x ≡ g v = ap g (some-injective x v e) in
    let h : total f xs ≤ total g xs = total_le f g xs (λ j u d. each (suc j) u d) in
    omega arith
total_less f g (x ∷ xs) (suc i) v each e l =
    let a : f x ≤ g x = each 0 x refl in
    let h : total f xs < total g xs = total_less f g xs i v (λ j u d. each (suc j) u d) e l in
    omega arith

-- a number that stands nowhere among the retired is none of theirs
pub not_times : (n : ℕ) (es : List Ended) (k : ℕ) (e : Ended) → times n es ≡ 0 → get_elem? es k ≡ some e → e.number ≢ n
not_times n [] k e z at = absurd (some-ne-none e (sym at))
not_times n (x ∷ xs) zero e z at = λ same. let a : once_if x.number n ≡ 1 = once_yes x.number n (ap (λ (d : Ended). d.number) (some-injective x e at) ∙ same) in absurd (omega arith)
not_times n (x ∷ xs) (suc k) e z at = not_times n xs k e (omega arith) at

pub times_snoc : (n : ℕ) (es : List Ended) (e : Ended) → times n (es ++ e ∷ []) ≡ times n es + once_if e.number n
times_snoc n [] e = omega arith
times_snoc n (x ∷ xs) e = let h : times n (xs ++ e ∷ []) ≡ times n xs + once_if e.number n = times_snoc n xs e in omega arith
