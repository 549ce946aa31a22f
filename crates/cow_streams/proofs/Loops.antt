-- One step more of each loop.
use Rattle.std.proofs.Common.{◌≡◌, ◌≤◌, ◌<◌, ◌+◌, ◌++◌, ◌&&◌, ◌||◌, not, ℕ, zero, suc, Bool, true, false, cond, List, [], ◌∷◌, length, take, get_or, All, refl, sym, ap, ◌∙◌, inl, inr, eqb, arith}
use Rattle.std.specs.Prelude.{filter}
use Rattle.std.specs.List.{flat_map, list_any, range_with_len}
use Rattle.std.specs.List.Sorted.{IsStrictlyIncreasing}
use Rattle.std.proofs.lemmas.Bool.{both_ways, cases_Bool, cases_lt, cases_order, eq-eqb, eqb-true}
use Rattle.std.proofs.lemmas.List.{append-nil, take_more}
use Rattle.std.proofs.lemmas.List.Elements.{All-from_recursion, recursion_from_All}
use Rattle.std.proofs.lemmas.List.Folds.{list_any_at}
use Rattle.std.proofs.lemmas.Grind.{flat_map-append}
use Rattle.std.proofs.lemmas.List.Kept.{AllPairs-from_increasing}
use Rattle.free_page_maps.specs.FreeBlocks.{FreeBlocks, IsLeastFree, below_where, is_free, unreserved_where, without}
use Rattle.msf_blocks.specs.Blocks.{is_reserved}
use Rattle.cow_streams.specs.Freeing.{without_all}
use Rattle.cow_streams.specs.Supply.{next_unreserved, unreserved_from}
use Rattle.cow_streams.proofs.Lists.{each_behind, each_front}

-- ---- the least free blocks

-- the first i of rising numbers lie below a number, and the others do not
pub record IsSearched (xs : List ℕ) (i from : ℕ) : Type 0 where
  pub below : (j : ℕ) → j < i → j < length xs → get_or xs j 0 < from
  pub above : (j : ℕ) → i ≤ j → j < length xs → from ≤ get_or xs j 0

place_of : (xs : List ℕ) (b : ℕ) → list_any (λ x. eqb x b) xs ≡ true → (j : ℕ) × (j < length xs) × (get_or xs j 0 ≡ b)
place_of [] b is = absurd cc
place_of (x ∷ xs) b is =
    elim (cases_Bool (eqb x b)) [
      | inl here ↦ (0, omega arith, eqb-true x b here)
      | inr later ↦ let rest = place_of xs b (sym (ap (λ t. t || list_any (λ x. eqb x b) xs) later) ∙ is) in (suc rest.0, (let lt = rest.1 in omega (arith, lt)), rest.2)
    ]

pub next_free : (xs : List ℕ) (i from b blocks : ℕ) → IsStrictlyIncreasing xs → IsSearched xs i from → IsLeastFree (record { blocks = blocks; free = xs }) from b → (i < length xs) × (get_or xs i 0 ≡ b)
next_free xs i from b blocks rising searched is =
    let at = place_of xs b is.among in
    let j = at.0 in
    let inside : j < length xs = at.1 in
    let same : get_or xs j 0 ≡ b = at.2 in
    let enough : from ≤ b = is.enough in
    elim (cases_order i j) [
      | inl here ↦ (omega (arith, here, inside), ap (λ k. get_or xs k 0) here ∙ same)
      | inr others ↦
          elim others [
            | inl before ↦
                let lower = AllPairs-from_increasing xs rising i j 0 before inside in
                let lt_i : i < length xs = omega (arith, before, inside) in
                let from_i = searched.above i (omega arith) lt_i in
                let b_i = get_or xs i 0 in
                absurd (both_ways (list_any (λ x. eqb x b_i) xs) (is.least b_i from_i (omega (arith, lower, same))) (list_any_at (λ x. eqb x b_i) xs i 0 lt_i (eq-eqb b_i b_i refl)))
            | inr behind ↦ let less = searched.below j behind inside in absurd (omega (arith, less, same, enough))
          ]
    ]

pub none_left : (xs : List ℕ) (i from blocks : ℕ) → IsSearched xs i from → ((b : ℕ) → from ≤ b → is_free (record { blocks = blocks; free = xs }) b ≡ false) → length xs ≤ i
none_left xs i from blocks searched none =
    elim (cases_lt i (length xs)) [
      | inr all ↦ all
      | inl lt ↦
          let b = get_or xs i 0 in
          absurd (both_ways (list_any (λ x. eqb x b) xs) (none b (searched.above i (omega arith) lt)) (list_any_at (λ x. eqb x b) xs i 0 lt (eq-eqb b b refl)))
    ]

pub searched_more : (xs : List ℕ) (i from b : ℕ) → IsStrictlyIncreasing xs → IsSearched xs i from → from ≤ b → get_or xs i 0 ≡ b → IsSearched xs (i + 1) (b + 1)
searched_more xs i from b rising searched enough same = record {
  below = λ j lt inside.
      elim (cases_lt j i) [
        | inl before ↦ let less = searched.below j before inside in omega (arith, less, enough)
        | inr not_before ↦ let here : j ≡ i = omega (arith, lt, not_before) in let is = ap (λ k. get_or xs k 0) here ∙ same in omega (arith, is)
      ];
  above = λ j le inside. let more = AllPairs-from_increasing xs rising i j 0 (omega (arith, le)) inside in omega (arith, more, same);
}

pub searched_none : (xs : List ℕ) → IsSearched xs 0 0
searched_none xs = record { below = λ j lt inside. absurd (omega (arith, lt)); above = λ j le inside. omega arith }

-- ---- past the end

-- where the search past the end stands after so many blocks
abbrev pub end_after : ℕ → ℕ → ℕ → ℕ
end_after size b zero = b
end_after size b (suc n) = end_after size (next_unreserved size b + 1) n

past_more_suc : (size b n : ℕ) → unreserved_from size b (suc n) ≡ unreserved_from size b n ++ next_unreserved size (end_after size b n) ∷ []
past_more_suc size b zero = refl
past_more_suc size b (suc n) = ap (λ xs. next_unreserved size b ∷ xs) (past_more_suc size (next_unreserved size b + 1) n)

pub past_more : (size b n : ℕ) → unreserved_from size b (n + 1) ≡ unreserved_from size b n ++ next_unreserved size (end_after size b n) ∷ []
past_more size b n = let next : n + 1 ≡ suc n = omega arith in ap (unreserved_from size b) next ∙ past_more_suc size b n

end_more_suc : (size b n : ℕ) → end_after size b (suc n) ≡ next_unreserved size (end_after size b n) + 1
end_more_suc size b zero = refl
end_more_suc size b (suc n) = end_more_suc size (next_unreserved size b + 1) n

pub end_more : (size b n : ℕ) → end_after size b (n + 1) ≡ next_unreserved size (end_after size b n) + 1
end_more size b n = let next : n + 1 ≡ suc n = omega arith in ap (end_after size b) next ∙ end_more_suc size b n

-- ---- blocks that are used

pub without_all-append : (m : FreeBlocks) (xs ys : List ℕ) → without_all m (xs ++ ys) ≡ without_all (without_all m xs) ys
without_all-append m [] ys = refl
without_all-append m (x ∷ xs) ys = without_all-append (without m x) xs ys

pub without_more : (m : FreeBlocks) (xs : List ℕ) (i : ℕ) → i < length xs → without_all m (take (i + 1) xs) ≡ without (without_all m (take i xs)) (get_or xs i 0)
without_more m xs i lt = ap (without_all m) (take_more xs i 0 lt) ∙ without_all-append m (take i xs) (get_or xs i 0 ∷ [])

filter_twice : (p q : ℕ → Bool) (xs : List ℕ) → filter q (filter p xs) ≡ filter (λ k. p k && q k) xs
filter_twice p q [] = refl
filter_twice p q (x ∷ xs) = step (p x) (filter_twice p q xs)
  where
    step : (t : Bool) → filter q (filter p xs) ≡ filter (λ k. p k && q k) xs → filter q (cond t (x ∷ filter p xs) (filter p xs)) ≡ cond (t && q x) (x ∷ filter (λ k. p k && q k) xs) (filter (λ k. p k && q k) xs)
    step true h = ap (λ ys. cond (q x) (x ∷ ys) ys) h
    step false h = h

same_filter : (p q : ℕ → Bool) (xs : List ℕ) → ((b : ℕ) → p b ≡ q b) → filter p xs ≡ filter q xs
same_filter p q [] h = refl
same_filter p q (x ∷ xs) h = ap (λ t. cond t (x ∷ filter p xs) (filter p xs)) (h x) ∙ ap (λ ys. cond (q x) (x ∷ ys) ys) (same_filter p q xs h)

without_filter : (n : ℕ) (used xs : List ℕ) → without_all (record { blocks = n; free = xs }) used ≡ record { blocks = n; free = filter (λ b. not (list_any (λ x. eqb x b) used)) xs }
without_filter n [] xs = ap (λ ys. record { blocks = n; free = ys }) (sym (all_pass xs))
  where
    all_pass : (xs : List ℕ) → filter (λ b. true) xs ≡ xs
    all_pass [] = refl
    all_pass (x ∷ xs) = ap (λ ys. x ∷ ys) (all_pass xs)
without_filter n (u ∷ used) xs =
    let first = λ (k : ℕ). not (eqb k u) in
    let rest = λ (b : ℕ). not (list_any (λ x. eqb x b) used) in
    without_filter n used (filter first xs)
    ∙ ap (λ ys. record { blocks = n; free = ys }) (filter_twice first rest xs ∙ same_filter (λ b. first b && rest b) (λ b. not (eqb u b || list_any (λ x. eqb x b) used)) xs (λ b. each u b (list_any (λ x. eqb x b) used) (turned u b)))
  where
    turned : (u b : ℕ) → eqb b u ≡ eqb u b
    turned u b =
        elim (cases_Bool (eqb u b)) [
          | inl is ↦ eq-eqb b u (sym (eqb-true u b is)) ∙ sym is
          | inr not_is ↦ elim (cases_Bool (eqb b u)) [ inl is ↦ absurd (both_ways (eqb u b) not_is (eq-eqb u b (sym (eqb-true b u is)))) | inr also ↦ also ∙ sym not_is ]
        ]

    each : (u b : ℕ) (t : Bool) → eqb b u ≡ eqb u b → (not (eqb b u) && not t) ≡ not (eqb u b || t)
    each u b t same = ap (λ s. not s && not t) same ∙ both (eqb u b)
      where
        both : (s : Bool) → (not s && not t) ≡ not (s || t)
        both true = refl
        both false = refl

pub free_but_is : (size n : ℕ) (used : List ℕ) → without_all (unreserved_where size n (λ _. true)) used ≡ unreserved_where size n (λ b. not (list_any (λ x. eqb x b) used))
unfolding below_where
free_but_is size n used =
    let unused = λ (b : ℕ). not (list_any (λ x. eqb x b) used) in
    without_filter n used (filter (λ b. not (is_reserved size b) && true) (range_with_len 0 n))
    ∙ ap (λ ys. record { blocks = n; free = ys }) (filter_twice (λ b. not (is_reserved size b) && true) unused (range_with_len 0 n)
    ∙ same_filter (λ b. not (is_reserved size b) && true && unused b) (λ b. not (is_reserved size b) && unused b) (range_with_len 0 n) (λ b. ap (λ t. t && unused b) (and_true (not (is_reserved size b)))))
  where
    and_true : (t : Bool) → (t && true) ≡ t
    and_true true = refl
    and_true false = refl

pub without_all-blocks : (m : FreeBlocks) (xs : List ℕ) → (without_all m xs).blocks ≡ m.blocks
without_all-blocks m [] = refl
without_all-blocks m (x ∷ xs) = without_all-blocks (without m x) xs

pub without_streams_more : {X : Type 0} (f : X → List ℕ) (m : FreeBlocks) (xs : List X) (i : ℕ) (x : X) → i < length xs → x ≡ get_or xs i x → without_all m (flat_map f (take (i + 1) xs)) ≡ without_all (without_all m (flat_map f (take i xs))) (f x)
without_streams_more f m xs i x lt is =
    ap (λ ys. without_all m (flat_map f ys)) (take_more xs i x lt ∙ ap (λ y. take i xs ++ y ∷ []) (sym is)) ∙ ap (without_all m) (flat_map-append f (take i xs) (x ∷ []) ∙ ap (λ ys. flat_map f (take i xs) ++ ys) (append-nil (f x)))
    ∙ without_all-append m (flat_map f (take i xs)) (f x)

-- what holds of all used blocks
pub used_inside : (P : ℕ → Type 0) (m : ℕ) (listed rest : List ℕ) → All P ((m ∷ listed) ++ rest) → P m × All P listed × All P rest
used_inside P m listed rest all =
    let each = recursion_from_All P ((m ∷ listed) ++ rest) all in
    (each.0, All-from_recursion P listed (each_front P listed rest each.1), All-from_recursion P rest (each_behind P listed rest each.1))
