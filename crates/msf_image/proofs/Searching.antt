-- The first block of many streams that passes a test.
use Rattle.std.proofs.Common.{◌≡◌, ◌<◌, ◌+◌, ◌++◌, ℕ, zero, suc, Bool, true, false, cond, All, arith, List, [], ◌∷◌, length, take, drop, get_or, find, Option, Some, None, refl, sym, ap, ◌∙◌}
use Rattle.std.specs.List.{flat_map}
use Rattle.std.specs.Option.{option_or}
use Rattle.std.proofs.lemmas.List.{append-nil, take_more, take-append-drop}
use Rattle.std.proofs.lemmas.List.Elements.{All-tail}
use Rattle.std.proofs.lemmas.List.Folds.{find-append}
use Rattle.std.proofs.lemmas.Grind.{flat_map-append}

find_apart : {X : Type 0} (p : X → Bool) (xs ys : List X) (a b : Option X) → find p xs ≡ a → find p ys ≡ b → find p (xs ++ ys) ≡ option_or a b
find_apart p xs ys a b one two = find-append p xs ys ∙ ap (λ o. option_or o (find p ys)) one ∙ ap (option_or a) two

find_more_is : {A X : Type 0} (p : X → Bool) (f : A → List X) (items : List A) (i : ℕ) (item : A) (found : Option X) → i < length items → item ≡ get_or items i item → find p (flat_map f (take i items)) ≡ None → find p (f item) ≡ found
    → find p (flat_map f (take (i + 1) items)) ≡ found
find_more_is p f items i item found inside at none here =
    ap (λ xs. find p (flat_map f xs)) (take_more items i item inside ∙ ap (λ x. take i items ++ x ∷ []) (sym at)) ∙ ap (find p) (flat_map-append f (take i items) (item ∷ []) ∙ ap (λ xs. flat_map f (take i items) ++ xs) (append-nil (f item)))
    ∙ find_apart p (flat_map f (take i items)) (f item) None found none here

pub find_more : {A X : Type 0} (p : X → Bool) (f : A → List X) (items : List A) (i : ℕ) (item : A) → i < length items → item ≡ get_or items i item → find p (flat_map f (take i items)) ≡ None → find p (f item) ≡ None → find p (flat_map f (take (i + 1) items)) ≡ None
find_more p f items i item inside at none here = find_more_is p f items i item None inside at none here

pub find_here : {A X : Type 0} (p : X → Bool) (f : A → List X) (items : List A) (i : ℕ) (item : A) (x : X) → i < length items → item ≡ get_or items i item → find p (flat_map f (take i items)) ≡ None → find p (f item) ≡ Some x → find p (flat_map f items) ≡ Some x
find_here p f items i item x inside at none here =
    ap (λ xs. find p (flat_map f xs)) (sym (take-append-drop (i + 1) items)) ∙ ap (find p) (flat_map-append f (take (i + 1) items) (drop (i + 1) items))
    ∙ find_apart p (flat_map f (take (i + 1) items)) (flat_map f (drop (i + 1) items)) (Some x) _ (find_more_is p f items i item (Some x) inside at none here) refl

pub find_front : {X : Type 0} (p : X → Bool) (xs ys : List X) (x : X) → find p xs ≡ Some x → find p (xs ++ ys) ≡ Some x
find_front p xs ys x here = find_apart p xs ys (Some x) _ here refl

pub find_behind : {X : Type 0} (p : X → Bool) (xs ys : List X) (found : Option X) → find p xs ≡ None → find p ys ≡ found → find p (xs ++ ys) ≡ found
find_behind p xs ys found none behind = find_apart p xs ys None found none behind

not_here : {X : Type 0} (found : Bool) (x : X) (rest : Option X) → cond found (Some x) rest ≡ None → (found ≡ false) × (rest ≡ None)
not_here true x rest is = absurd cc
not_here false x rest is = (refl, is)

-- where none is found, no element passes
pub none_passes : {X : Type 0} (p : X → Bool) (xs : List X) → find p xs ≡ None → All (λ x. p x ≡ false) xs
none_passes p [] none k d lt = absurd (omega (arith, lt))
none_passes p (x ∷ xs) none zero d lt = (not_here (p x) x (find p xs) none).0
none_passes p (x ∷ xs) none (suc k) d lt = none_passes p xs (not_here (p x) x (find p xs) none).1 k d (omega (arith, lt))

-- where no element passes, none is found
pub none_found : {X : Type 0} (p : X → Bool) (xs : List X) → All (λ x. p x ≡ false) xs → find p xs ≡ None
none_found p [] none = refl
none_found p (x ∷ xs) none = ap (λ t. cond t (Some x) (find p xs)) (none 0 x (omega arith)) ∙ none_found p xs (All-tail (λ x. p x ≡ false) x xs none)
