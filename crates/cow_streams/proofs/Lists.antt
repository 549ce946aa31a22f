-- Lists of numbers that rise or have none twice, and what holds of each element of a list.
use Rattle.std.proofs.Common.{◌≡◌, ◌≤◌, ◌<◌, ◌+◌, ◌++◌, ◌||◌, ℕ, zero, suc, false, List, [], ◌∷◌, length, take, drop, get_or, refl, sym, ap, subst, ◌∙◌, eqb, arith}
use Rattle.std.specs.List.{AllByRecursion, AllPairs, list_any}
use Rattle.std.specs.List.Sorted.{IsStrictlyIncreasing}
use Rattle.std.proofs.lemmas.Bool.{ne_eqb, or_parts}
use Rattle.std.proofs.lemmas.List.{drop_more, take-append-drop, length-drop, get_or-drop}
use Rattle.std.proofs.lemmas.List.Elements.{recursion_from_All}
use Rattle.std.proofs.lemmas.List.Folds.{list_any-append}
use Rattle.std.proofs.lemmas.List.Kept.{AllPairs-from_increasing}

-- ---- what holds of each

pub each_weaker : {X : Type 0} (P Q : X → Type 0) (xs : List X) → ((x : X) → P x → Q x) → AllByRecursion P xs → AllByRecursion Q xs
each_weaker P Q [] on h = tt
each_weaker P Q (x ∷ xs) on h = (on x h.0, each_weaker P Q xs on h.1)

pub each_both : {X : Type 0} (P Q R : X → Type 0) (xs : List X) → ((x : X) → P x → Q x → R x) → AllByRecursion P xs → AllByRecursion Q xs → AllByRecursion R xs
each_both P Q R [] on h k = tt
each_both P Q R (x ∷ xs) on h k = (on x h.0 k.0, each_both P Q R xs on h.1 k.1)

pub each_of : {X : Type 0} (P : X → Type 0) (xs : List X) → ((x : X) → P x) → AllByRecursion P xs
each_of P [] all = tt
each_of P (x ∷ xs) all = (all x, each_of P xs all)

pub each_append : {X : Type 0} (P : X → Type 0) (xs ys : List X) → AllByRecursion P xs → AllByRecursion P ys → AllByRecursion P (xs ++ ys)
each_append P [] ys h k = k
each_append P (x ∷ xs) ys h k = (h.0, each_append P xs ys h.1 k)

pub each_front : {X : Type 0} (P : X → Type 0) (xs ys : List X) → AllByRecursion P (xs ++ ys) → AllByRecursion P xs
each_front P [] ys h = tt
each_front P (x ∷ xs) ys h = (h.0, each_front P xs ys h.1)

pub each_behind : {X : Type 0} (P : X → Type 0) (xs ys : List X) → AllByRecursion P (xs ++ ys) → AllByRecursion P ys
each_behind P [] ys h = h
each_behind P (x ∷ xs) ys h = each_behind P xs ys h.1

pub each_take : {X : Type 0} (P : X → Type 0) (n : ℕ) (xs : List X) → AllByRecursion P xs → AllByRecursion P (take n xs)
each_take P zero xs h = tt
each_take P (suc n) [] h = tt
each_take P (suc n) (x ∷ xs) h = (h.0, each_take P n xs h.1)

-- ---- numbers that are not in a list, and lists that have none twice

abbrev pub Misses : List ℕ → ℕ → Type 0
Misses xs b = AllByRecursion (λ x. x ≡ b → ⊥) xs

abbrev pub Distinct : List ℕ → Type 0
Distinct [] = Unit {0}
Distinct (x ∷ xs) = Misses xs x × Distinct xs

pub any_misses : (xs : List ℕ) (b : ℕ) → Misses xs b → list_any (λ x. eqb x b) xs ≡ false
any_misses [] b h = refl
any_misses (x ∷ xs) b h = ap (λ t. t || list_any (λ x. eqb x b) xs) (ne_eqb x b h.0) ∙ any_misses xs b h.1

pub any_push : (xs : List ℕ) (b y : ℕ) → list_any (λ x. eqb x y) xs ≡ false → (b ≡ y → ⊥) → list_any (λ x. eqb x y) (xs ++ b ∷ []) ≡ false
any_push xs b y none other =
    list_any-append (λ x. eqb x y) xs (b ∷ []) ∙ ap (λ t. t || (eqb b y || false)) none ∙ ap (λ t. t || false) (ne_eqb b y other)

pub any_pop : (xs : List ℕ) (b y : ℕ) → list_any (λ x. eqb x y) (xs ++ b ∷ []) ≡ false → list_any (λ x. eqb x y) xs ≡ false
any_pop xs b y none = (or_parts (list_any (λ x. eqb x y) xs) (list_any (λ x. eqb x y) (b ∷ [])) (sym (list_any-append (λ x. eqb x y) xs (b ∷ [])) ∙ none)).0

-- of two lists no number is in both
abbrev pub Across : List ℕ → List ℕ → Type 0
Across xs ys = AllByRecursion (λ y. Misses xs y) ys

pub across_nil : (ys : List ℕ) → Across [] ys
across_nil ys = each_of (λ y. Misses [] y) ys (λ y. tt)

pub across_head : (x : ℕ) (xs ys : List ℕ) → Across (x ∷ xs) ys → Misses ys x × Across xs ys
across_head x xs ys h = (each_weaker (λ y. Misses (x ∷ xs) y) (λ y. y ≡ x → ⊥) ys (λ y both same. both.0 (sym same)) h, each_weaker (λ y. Misses (x ∷ xs) y) (λ y. Misses xs y) ys (λ y both. both.1) h)

-- what is not in a list, by what each of its numbers has and this one has not
pub misses_by : (P : ℕ → Type 0) (xs : List ℕ) (b : ℕ) → AllByRecursion P xs → (P b → ⊥) → Misses xs b
misses_by P xs b each denied = each_weaker P (λ x. x ≡ b → ⊥) xs (λ x is same. denied (subst P same is)) each

-- ---- lists that rise

abbrev pub Rises : List ℕ → Type 0
Rises [] = Unit {0}
Rises (x ∷ xs) = AllByRecursion (λ y. x < y) xs × Rises xs

pub distinct_from_rises : (xs : List ℕ) → Rises xs → Distinct xs
distinct_from_rises [] h = tt
distinct_from_rises (x ∷ xs) h = (each_weaker (λ y. x < y) (λ y. y ≡ x → ⊥) xs (λ y lt same. omega (arith, lt, same)) h.0, distinct_from_rises xs h.1)

pub rises_append : (xs ys : List ℕ) (n : ℕ) → Rises xs → Rises ys → AllByRecursion (λ x. x < n) xs → AllByRecursion (λ y. n ≤ y) ys → Rises (xs ++ ys)
rises_append [] ys n one two below above = two
rises_append (x ∷ xs) ys n one two below above = (
  each_append (λ y. x < y) xs ys one.0 (each_weaker (λ y. n ≤ y) (λ y. x < y) ys (λ y le. omega (arith, le, below.0)) above),
  rises_append xs ys n one.1 two below.1 above,
)

pub rises_front : (xs ys : List ℕ) → Rises (xs ++ ys) → Rises xs
rises_front [] ys h = tt
rises_front (x ∷ xs) ys h = (each_front (λ y. x < y) xs ys h.0, rises_front xs ys h.1)

pub rises_behind : (xs ys : List ℕ) → Rises (xs ++ ys) → Rises ys
rises_behind [] ys h = h
rises_behind (x ∷ xs) ys h = rises_behind xs ys h.1

-- each number in front is below each behind
pub rises_across : (xs ys : List ℕ) → Rises (xs ++ ys) → AllByRecursion (λ x. AllByRecursion (λ y. x < y) ys) xs
rises_across [] ys h = tt
rises_across (x ∷ xs) ys h = (each_behind (λ y. x < y) xs ys h.0, rises_across xs ys h.1)

pub rises_take : (n : ℕ) (xs : List ℕ) → Rises xs → Rises (take n xs)
rises_take n xs h = rises_front (take n xs) (drop n xs) (subst Rises (sym (take-append-drop n xs)) h)

rises_from_pairs : (xs : List ℕ) → AllPairs (λ x y. x < y) xs → Rises xs
rises_from_pairs [] h = tt
rises_from_pairs (x ∷ xs) h = (
  recursion_from_All (λ y. x < y) xs (λ k d lt. h 0 (suc k) d (omega arith) (omega (arith, lt))),
  rises_from_pairs xs (λ i j d lt inside. h (suc i) (suc j) d (omega (arith, lt)) (omega (arith, inside))),
)

pub rises_from_increasing : (xs : List ℕ) → IsStrictlyIncreasing xs → Rises xs
rises_from_increasing xs h = rises_from_pairs xs (AllPairs-from_increasing xs h)

pub increasing_from_rises : (xs : List ℕ) → Rises xs → IsStrictlyIncreasing xs
increasing_from_rises [] h k lt = absurd (omega (arith, lt))
increasing_from_rises (x ∷ []) h k lt = absurd (omega (arith, lt))
increasing_from_rises (x ∷ y ∷ xs) h zero lt = h.0.0
increasing_from_rises (x ∷ y ∷ xs) h (suc k) lt =
    let next : suc k + 1 ≡ suc (k + 1) = omega arith in
    subst (λ j. get_or (x ∷ y ∷ xs) (suc k) 0 < get_or (x ∷ y ∷ xs) j 0) (sym next) (increasing_from_rises (y ∷ xs) h.1 k (omega (arith, lt)))

-- ---- parts of a list

pub split_three : (w d : ℕ) (xs : List ℕ) → length xs ≡ w + d + 1 → xs ≡ take w xs ++ (take d (drop w xs) ++ get_or xs (w + d) 0 ∷ [])
split_three w d xs len =
    let rest = drop w xs in
    let n_rest : length rest ≡ d + 1 = omega (arith, length-drop w xs, len) in
    let last : drop d rest ≡ get_or rest d 0 ∷ drop (d + 1) rest = drop_more rest d 0 (omega (arith, n_rest)) in
    let none : drop (d + 1) rest ≡ [] = nil_at (d + 1) rest n_rest in
    sym (take-append-drop w xs) ∙ ap (λ ys. take w xs ++ ys) (sym (take-append-drop d rest) ∙ ap (λ ys. take d rest ++ ys) (last ∙ ap (λ ys. get_or rest d 0 ∷ ys) none ∙ ap (λ y. y ∷ []) (get_or-drop w xs d 0)))
  where
    nil_at : (n : ℕ) (ys : List ℕ) → length ys ≡ n → drop n ys ≡ []
    nil_at n ys same = subst (λ m. drop m ys ≡ []) same (all ys)
      where
        all : (ys : List ℕ) → drop (length ys) ys ≡ []
        all [] = refl
        all (y ∷ ys) = all ys

pub each_at : {X : Type 0} (P : X → Type 0) (xs : List X) (k : ℕ) (d : X) → AllByRecursion P xs → k < length xs → P (get_or xs k d)
each_at P [] k d h lt = absurd (omega (arith, lt))
each_at P (x ∷ xs) zero d h lt = h.0
each_at P (x ∷ xs) (suc k) d h lt = each_at P xs k d h.1 (omega (arith, lt))

pub distinct_append : (xs ys : List ℕ) → Distinct xs → Distinct ys → AllByRecursion (λ x. Misses ys x) xs → Distinct (xs ++ ys)
distinct_append [] ys one two across = two
distinct_append (x ∷ xs) ys one two across = (each_append (λ y. y ≡ x → ⊥) xs ys one.0 across.0, distinct_append xs ys one.1 two across.1)
