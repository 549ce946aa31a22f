-- How many blocks a plan of a commit's edits may ask for.
use Rattle.std.proofs.Common.{◌≡◌, ◌≤◌, ◌<◌, ◌+◌, ◌-◌, ◌*◌, ◌/◌, ◌%◌, ◌||◌, ◌⊎◌, ℕ, zero, suc, Bool, true, false, cond, List, [], ◌∷◌, ◌++◌, length, take, refl, sym, ap, ◌∙◌, inl, inr, arith, eqb}
use Rattle.std.specs.List.{AllByRecursion, list_any, range_with_len}
use Rattle.std.proofs.lemmas.Bool.{cases_Bool, cases_eq, cases_lt, eq-eqb, eqb-true, le-ltb, lt-ltb, ne_eqb}
use Rattle.std.proofs.lemmas.List.{length-append, take_all}
use Rattle.std.proofs.lemmas.List.FromFn.{length-range_with_len}
use Rattle.std.proofs.lemmas.List.Folds.{list_any-append}
use Rattle.std.proofs.lemmas.Nat.{mod-mul-add, div-add-mod'}
use Rattle.msf_blocks.specs.Blocks.{IsBlockSize, is_reserved}
use Rattle.msf_blocks.proofs.Sizes.{sized}
use Rattle.cow_streams.specs.Supply.{blocks_with, next_unreserved, supply, unreserved_from}
use Rattle.cow_streams.proofs.Lists.{each_take}
use Rattle.cow_streams.proofs.Supplying.{next_is}
use Rattle.type_store.specs.Shape.{count_below, reserved_below}

-- ---- numbers that pass a test, and the others in a list

all_below : (test : ℕ → Bool) (n : ℕ) → ((b : ℕ) → b < n → test b ≡ true) → count_below test n ≡ n
all_below test zero all = refl
all_below test (suc n) all =
    let here : cond (test n) 1 0 ≡ 1 = ap (λ t. weight t) (all n (omega arith)) in
    omega (arith, here, all_below test n (λ b lt. all b (omega (arith, lt))))
  where
    weight : Bool → ℕ
    weight t = cond t 1 0

count_same : (p q : ℕ → Bool) (n : ℕ) → ((b : ℕ) → b < n → p b ≡ q b) → count_below p n ≡ count_below q n
count_same p q zero same = refl
count_same p q (suc n) same = λ k. cond (same n (omega arith) k) 1 0 + count_same p q n (λ b lt. same b (omega (arith, lt))) k

-- a test that one number more passes
abbrev with_number : (ℕ → Bool) → ℕ → ℕ → Bool
with_number p x b = p b || eqb x b

weigh : (s t : Bool) → cond (s || t) 1 0 ≤ cond s 1 0 + 1
weigh true t = omega arith
weigh false true = omega arith
weigh false false = omega arith

or_false : (t : Bool) → (t || false) ≡ t
or_false true = refl
or_false false = refl

one_more : (p : ℕ → Bool) (x n : ℕ) → count_below (with_number p x) n ≤ count_below p n + 1
one_more p x zero = omega arith
one_more p x (suc n) =
    elim (cases_eq x n) [
      | inl is ↦
          let below = count_same (with_number p x) p n (λ b lt. ap (λ t. p b || t) (ne_eqb x b (λ e. omega (arith, e, is, lt))) ∙ or_false (p b)) in
          omega (arith, below, weigh (p n) (eqb x n))
      | inr ne ↦
          let here : cond (with_number p x n) 1 0 ≡ cond (p n) 1 0 = ap (λ t. weight (p n || t)) (ne_eqb x n ne) ∙ ap (λ t. weight t) (or_false (p n)) in
          omega (arith, here, one_more p x n)
    ]
  where
    weight : Bool → ℕ
    weight t = cond t 1 0

-- Numbers that all pass a test or stand in a list are no more than those that pass it and the list has.
pub counted : (p : ℕ → Bool) (k : ℕ) (xs : List ℕ) → ((b : ℕ) → b < k → p b ≡ false → list_any (λ x. eqb x b) xs ≡ true) → k ≤ count_below p k + length xs
counted p k [] each = omega (arith, all_below p k (λ b lt. elim (cases_Bool (p b)) [ inl passes ↦ passes | inr misses ↦ absurd (let none = each b lt misses in cc) ]))
counted p k (x ∷ xs) each =
    let ih = counted (with_number p x) k xs (λ b lt none. later b lt (p b) refl (eqb x b) refl none) in
    omega (arith, ih, one_more p x k)
  where
    later : (b : ℕ) → b < k → (s : Bool) → p b ≡ s → (t : Bool) → eqb x b ≡ t → (p b || eqb x b) ≡ false → list_any (λ x. eqb x b) xs ≡ true
    later b lt true is t at none = absurd (let both : true ≡ false = sym (ap (λ u. u || eqb x b) is) ∙ none in cc)
    later b lt false is true at none = absurd (let both : true ≡ false = sym (ap (λ u. false || u) at) ∙ sym (ap (λ u. u || eqb x b) is) ∙ none in cc)
    later b lt false is false at none = sym (ap (λ u. u || list_any (λ x. eqb x b) xs) at) ∙ each b lt is

-- ---- the blocks past the old end

-- a block between one and the next that is not reserved is reserved
passed_over : (size b c : ℕ) → IsBlockSize size → b ≤ c → c < next_unreserved size b → is_reserved size c ≡ true
passed_over size b c h le lt =
    let first = eqb (b % size) 1 in
    let second = eqb (b % size) 2 in
    elim (cases_Bool first) [
      | inl one ↦ after_one (eqb-true (b % size) 1 one) (omega (arith, lt, ap (λ t. cond t (b + 2) (cond second (b + 1) b)) one))
      | inr not_one ↦
          let rest : next_unreserved size b ≡ cond second (b + 1) b = ap (λ t. cond t (b + 2) (cond second (b + 1) b)) not_one in
          elim (cases_Bool second) [
            | inl two ↦ after_two (eqb-true (b % size) 2 two) (omega (arith, lt, rest, ap (λ t. cond t (b + 1) b) two))
            | inr not_two ↦ absurd (omega (arith, lt, le, rest, ap (λ t. cond t (b + 1) b) not_two))
          ]
    ]
  where
    or_right : (s t : Bool) → t ≡ true → (s || t) ≡ true
    or_right true t is = refl
    or_right false t is = is

    or_middle : (s t u : Bool) → t ≡ true → (s || t || u) ≡ true
    or_middle true t u is = refl
    or_middle false t u is = ap (λ x. x || u) is

    is_one : (d : ℕ) → d % size ≡ 1 → is_reserved size d ≡ true
    is_one d is = or_middle (eqb d 0) (eqb (d % size) 1) (eqb (d % size) 2) (eq-eqb (d % size) 1 is)

    is_two : (d : ℕ) → d % size ≡ 2 → is_reserved size d ≡ true
    is_two d is = or_right (eqb d 0 || eqb (d % size) 1) (eqb (d % size) 2) (eq-eqb (d % size) 2 is)

    after_two : b % size ≡ 2 → c < b + 1 → is_reserved size c ≡ true
    after_two is less = let same : b ≡ c = omega (arith, le, less) in is_two c (ap (λ d. d % size) (sym same) ∙ is)

    next_two : b % size ≡ 1 → (b + 1) % size ≡ 2
    next_two is =
        let split : b / size * size + b % size ≡ b = div-add-mod' b size in
        let place : b + 1 ≡ b / size * size + 2 = omega (arith, split, is) in
        ap (λ d. d % size) place ∙ mod-mul-add (b / size) size 2 (omega (arith, (sized size h).least))

    after_one : b % size ≡ 1 → c < b + 2 → is_reserved size c ≡ true
    after_one is less =
        elim (cases_eq c b) [
          | inl same ↦ is_one c (ap (λ d. d % size) same ∙ is)
          | inr other ↦ let next : c ≡ b + 1 = omega (arith, le, less, other) in is_two c (ap (λ d. d % size) next ∙ next_two is)
        ]

in_front : (x b : ℕ) (xs : List ℕ) → x ≡ b → list_any (λ x. eqb x b) (x ∷ xs) ≡ true
in_front x b xs is = ap (λ t. t || list_any (λ x. eqb x b) xs) (eq-eqb x b is)

in_rest : (x b : ℕ) (xs : List ℕ) → list_any (λ x. eqb x b) xs ≡ true → list_any (λ x. eqb x b) (x ∷ xs) ≡ true
in_rest x b xs is = go (eqb x b)
  where
    go : (t : Bool) → (t || list_any (λ x. eqb x b) xs) ≡ true
    go true = refl
    go false = is

-- the blocks that are given past a block are all that are not reserved
run_whole : (size b n c : ℕ) → IsBlockSize size → 1 ≤ b → b ≤ c → c < blocks_with b (unreserved_from size b n) → is_reserved size c ≡ false → list_any (λ x. eqb x c) (unreserved_from size b n) ≡ true
run_whole size b zero c h some le lt unreserved = absurd (omega (arith, le, lt))
run_whole size b (suc n) c h some le lt unreserved =
    let next = next_unreserved size b in
    let is = next_is size b h some in
    let rest = unreserved_from size (next + 1) n in
    let grows : blocks_with b (next ∷ rest) ≡ blocks_with (next + 1) rest = ap (λ t. blocks_with (cond t b (next + 1)) rest) (le-ltb next b is.0) in
    elim (cases_lt c next) [
      | inl before ↦ absurd (let both : true ≡ false = sym (passed_over size b c h le before) ∙ unreserved in cc)
      | inr behind ↦
          elim (cases_eq next c) [
            | inl same ↦ in_front next c rest same
            | inr other ↦ in_rest next c rest (run_whole size (next + 1) n c h (omega arith) (omega (arith, behind, other)) (omega (arith, lt, grows)) unreserved)
          ]
    ]

-- blocks below the old end add none
blocks_within : (blocks : ℕ) (given more : List ℕ) → AllByRecursion (λ b. b < blocks) given → blocks_with blocks (given ++ more) ≡ blocks_with blocks more
blocks_within blocks [] more inside = refl
blocks_within blocks (b ∷ given) more inside = ap (λ t. blocks_with (cond t blocks (b + 1)) (given ++ more)) (lt-ltb b blocks inside.0) ∙ blocks_within blocks given more inside.1

in_left : (b : ℕ) (xs ys : List ℕ) → list_any (λ x. eqb x b) xs ≡ true → list_any (λ x. eqb x b) (xs ++ ys) ≡ true
in_left b xs ys is = list_any-append (λ x. eqb x b) xs ys ∙ ap (λ t. t || list_any (λ x. eqb x b) ys) is

in_right : (b : ℕ) (xs ys : List ℕ) → list_any (λ x. eqb x b) ys ≡ true → list_any (λ x. eqb x b) (xs ++ ys) ≡ true
in_right b xs ys is = list_any-append (λ x. eqb x b) xs ys ∙ go (list_any (λ x. eqb x b) xs)
  where
    go : (t : Bool) → (t || list_any (λ x. eqb x b) ys) ≡ true
    go true = refl
    go false = is

in_range : (a n b : ℕ) → a ≤ b → b < a + n → list_any (λ x. eqb x b) (range_with_len a n) ≡ true
in_range a zero b le lt = absurd (omega (arith, le, lt))
in_range a (suc n) b le lt =
    elim (cases_eq a b) [ inl same ↦ in_front a b (range_with_len (a + 1) n) same | inr other ↦ in_rest a b (range_with_len (a + 1) n) (in_range (a + 1) n b (omega (arith, le, other)) (omega (arith, lt))) ]

-- ---- the number of blocks

module _ (size blocks n : ℕ) (free : List ℕ) (h : IsBlockSize size) (some : 1 ≤ blocks) (inside : AllByRecursion (λ b. b < blocks) free) where
  abbrev given : List ℕ
  given = supply size blocks free n

  abbrev k : ℕ
  k = blocks_with blocks given

  -- those past the old end are given
  past_given : (b : ℕ) → blocks ≤ b → b < k → is_reserved size b ≡ false → list_any (λ x. eqb x b) given ≡ true
  unfolding supply
  past_given b le lt unreserved =
      let run = unreserved_from size blocks (n - length free) in
      let same = blocks_within blocks (take n free) run (each_take (λ b. b < blocks) n free inside) in
      in_right b (take n free) run (run_whole size blocks (n - length free) b h some le (omega (arith, lt, same)) unreserved)

  -- of any file: the old blocks, and those that are given
  pub blocks_of_any : k ≤ reserved_below size k + (blocks + length given)
  blocks_of_any =
      let xs = range_with_len 0 blocks ++ given in
      let all = counted (is_reserved size) k xs
      (λ b lt unreserved. elim (cases_lt b blocks) [ inl low ↦ in_left b (range_with_len 0 blocks) given (in_range 0 blocks b (omega arith) (omega (arith, low))) | inr high ↦ in_right b (range_with_len 0 blocks) given (past_given b high lt unreserved) ]) in
      omega (arith, all, length-append (range_with_len 0 blocks) given, length-range_with_len 0 blocks)

  -- all free blocks are given before one past the end
  free_given : blocks < k → (b : ℕ) → list_any (λ x. eqb x b) free ≡ true → list_any (λ x. eqb x b) given ≡ true
  unfolding supply
  free_given more b is =
      let run = unreserved_from size blocks (n - length free) in
      elim (cases_lt n (length free)) [
        | inl less ↦ absurd (
            let none : n - length free ≡ 0 = omega (arith, less) in
            let same = blocks_within blocks (take n free) run (each_take (λ b. b < blocks) n free inside) ∙ ap (λ m. blocks_with blocks (unreserved_from size blocks m)) none in
            omega (arith, more, same)
            )
        | inr enough ↦ in_left b (take n free) run (ap (list_any (λ x. eqb x b)) (take_all n free enough) ∙ is)
      ]

  -- of a file in which each unreserved block is free or among these
  pub blocks_of_complete : (used : List ℕ) → blocks < k → ((b : ℕ) → b < blocks → is_reserved size b ≡ false → (list_any (λ x. eqb x b) free ≡ true) ⊎ (list_any (λ x. eqb x b) used ≡ true))
      → k ≤ reserved_below size k + (length used + length given)
  blocks_of_complete used more complete =
      let all = counted (is_reserved size) k (used ++ given)
      (λ b lt unreserved.
      elim (cases_lt b blocks) [
        | inl low ↦ elim (complete b low unreserved) [ inl is_free ↦ in_right b used given (free_given more b is_free) | inr is_used ↦ in_left b used given is_used ]
        | inr high ↦ in_right b used given (past_given b high lt unreserved)
      ]) in
      omega (arith, all, length-append used given)
