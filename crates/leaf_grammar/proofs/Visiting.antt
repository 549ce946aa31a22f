-- Calls one after another.
use Rattle.std.proofs.Common.{List, [], ◌∷◌, ◌++◌, refl, ap, subst, sym}
use Rattle.std.specs.Prelude.{flat_map}
use Rattle.leaf_grammar.specs.Visits.{Visits}

-- whatever visits the rest from here on completes a visit of all from the start
abbrev pub Completes : {V X : Type 0} → (V → X → V → Type 0) → List X → V → List X → V → Type 0
Completes {V} does rest now all before = (after : V) → Visits does rest now after → Visits does all before after

pub visits_append : {V X : Type 0} (does : V → X → V → Type 0) (xs ys : List X) (a b c : V) → Visits does xs a b → Visits does ys b c → Visits does (xs ++ ys) a c
visits_append {V} {X} does [] ys a b c v w = let P : V → Type 0 = λ x. Visits does ys x c in subst P (sym v) w
visits_append {V} {X} does (x ∷ xs) ys a b c v w = (v.0, v.1, visits_append does xs ys v.0 b c v.2 w)

pub completes_one : {V X : Type 0} (does : V → X → V → Type 0) (x : X) (rest : List X) (now next : V) (all : List X) (before : V) → does now x next → Completes does (x ∷ rest) now all before → Completes does rest next all before
completes_one does x rest now next all before d h = λ after k. h after (next, d, k)

pub completes_more : {V X : Type 0} (does : V → X → V → Type 0) (xs rest : List X) (now next : V) (all : List X) (before : V) → Visits does xs now next → Completes does (xs ++ rest) now all before → Completes does rest next all before
completes_more does xs rest now next all before v h = λ after k. h after (visits_append does xs rest now next after v k)

pub completes_end : {V X : Type 0} (does : V → X → V → Type 0) (now : V) (all : List X) (before : V) → Completes does [] now all before → Visits does all before now
completes_end does now all before h = h now refl

-- where each call visits the list of its element, a row of calls visits them all
pub visits_flat : {V W X Y : Type 0} (does : V → X → V → Type 0) (step : W → Y → W → Type 0) (view : V → W) (list : X → List Y) → ((a : V) (x : X) (b : V) → does a x b → Visits step (list x) (view a) (view b)) →
    (xs : List X) (a b : V) → Visits does xs a b → Visits step (flat_map list xs) (view a) (view b)
visits_flat does step view list each [] a b v = ap view v
visits_flat does step view list each (x ∷ xs) a b v =
    visits_append step (list x) (flat_map list xs) (view a) (view v.0) (view b) (each a x v.0 v.1) (visits_flat does step view list each xs v.0 b v.2)
