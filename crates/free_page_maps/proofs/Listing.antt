-- The numbers below another that pass a test.
use Rattle.std.proofs.Common.{All, ◌≡◌, ◌≢◌, ◌≤◌, ◌<◌, ◌+◌, ◌*◌, ◌/◌, ◌%◌, ◌||◌, ◌&&◌, not, ℕ, zero, suc, Bool, true, false, List, [], ◌∷◌, length, map, replicate, refl, ap, sym, ◌∙◌, inl, inr, arith, eqb, cond}
use Rattle.std.specs.Int.{bit_at}
use Rattle.std.specs.Prelude.{filter}
use Rattle.std.specs.List.{list_any, range_with_len}
use Rattle.std.proofs.lemmas.Bool.{agree_below_at, cases_lt, cases_eq, eq-eqb, ne_eqb, and_parts, and_right, both_ways, not-true}
use Rattle.std.proofs.lemmas.List.{get_or-replicate, length-append, map-id}
use Rattle.std.proofs.lemmas.List.Elements.{All-weaker, filter_passes}
use Rattle.std.proofs.lemmas.List.FromFn.{filter_of_map_range_with_len_more, length-range_with_len}
use Rattle.msf_blocks.specs.Blocks.{IsReserved, is_reserved}
use Rattle.msf_blocks.specs.Bits.{has_bit}
use Rattle.free_page_maps.specs.FreeBlocks.{IsLeastFree, below_where, free_in, is_free, unreserved_where}
use Rattle.free_page_maps.specs.Lowest.{IsLowestBit}

-- two tests that agree from a on, over n numbers
same_filter : (p q : ℕ → Bool) (a n : ℕ) → ((b : ℕ) → a ≤ b → b < a + n → p b ≡ q b) → filter p (range_with_len a n) ≡ filter q (range_with_len a n)
same_filter p q a zero h = refl
same_filter p q a (suc n) h =
    ap (λ t. cond t (a ∷ filter p (range_with_len (a + 1) n)) (filter p (range_with_len (a + 1) n))) (h a (omega arith) (omega arith))
    ∙ ap (λ xs. cond (q a) (a ∷ xs) xs) (same_filter p q (a + 1) n (λ b from to. h b (omega (arith, from)) (omega (arith, to))))

pub below_where-same : (n : ℕ) (p q : ℕ → Bool) → ((b : ℕ) → b < n → p b ≡ q b) → below_where n p ≡ below_where n q
unfolding below_where
below_where-same n p q h = same_filter p q 0 n (λ b from to. h b (omega (arith, to)))

-- the list with its first number, if it passes
head_or_not : (t : Bool) (a b : ℕ) (xs : List ℕ) → list_any (λ x. eqb x b) (cond t (a ∷ xs) xs) ≡ ((t && eqb a b) || list_any (λ x. eqb x b) xs)
head_or_not true a b xs = refl
head_or_not false a b xs = refl

not_before : (p : ℕ → Bool) (a n b : ℕ) → b < a → list_any (λ x. eqb x b) (filter p (range_with_len a n)) ≡ false
not_before p a zero b lt = refl
not_before p a (suc n) b lt =
    let rest = filter p (range_with_len (a + 1) n) in
    head_or_not (p a) a b rest ∙ ap (λ t. (p a && t) || list_any (λ x. eqb x b) rest) (ne_eqb a b (λ e. omega (arith, e, lt)))
    ∙ ap (λ t. (p a && false) || t) (not_before p (a + 1) n b (omega (arith, lt))) ∙ and_none (p a)
  where
    and_none : (t : Bool) → ((t && false) || false) ≡ false
    and_none true = refl
    and_none false = refl

not_behind : (p : ℕ → Bool) (a n b : ℕ) → a + n ≤ b → list_any (λ x. eqb x b) (filter p (range_with_len a n)) ≡ false
not_behind p a zero b le = refl
not_behind p a (suc n) b le =
    let rest = filter p (range_with_len (a + 1) n) in
    head_or_not (p a) a b rest ∙ ap (λ t. (p a && t) || list_any (λ x. eqb x b) rest) (ne_eqb a b (λ e. omega (arith, e, le)))
    ∙ ap (λ t. (p a && false) || t) (not_behind p (a + 1) n b (omega (arith, le))) ∙ and_none (p a)
  where
    and_none : (t : Bool) → ((t && false) || false) ≡ false
    and_none true = refl
    and_none false = refl

listed : (p : ℕ → Bool) (a n b : ℕ) → a ≤ b → b < a + n → list_any (λ x. eqb x b) (filter p (range_with_len a n)) ≡ p b
listed p a zero b from to = absurd (omega (arith, from, to))
listed p a (suc n) b from to =
    let rest = filter p (range_with_len (a + 1) n) in
    elim (cases_eq a b) [
      | inl e ↦
          head_or_not (p a) a b rest ∙ ap (λ t. (p a && t) || list_any (λ x. eqb x b) rest) (eq-eqb a b e)
          ∙ ap (λ t. (p a && true) || t) (not_before p (a + 1) n b (omega (arith, e))) ∙ and_true (p a) ∙ ap p e
      | inr ne ↦
          head_or_not (p a) a b rest ∙ ap (λ t. (p a && t) || list_any (λ x. eqb x b) rest) (ne_eqb a b ne)
          ∙ ap (λ t. (p a && false) || t) (listed p (a + 1) n b (omega (arith, from, ne)) (omega (arith, to))) ∙ or_rest (p a) (p b)
    ]
  where
    and_true : (t : Bool) → ((t && true) || false) ≡ t
    and_true true = refl
    and_true false = refl

    or_rest : (t u : Bool) → ((t && false) || u) ≡ u
    or_rest true u = refl
    or_rest false u = refl

-- a block below the number of blocks is free where it passes the test, and no other is
pub is_free-below_where : (n : ℕ) (p : ℕ → Bool) (b : ℕ) → b < n → is_free (record { blocks = n; free = below_where n p }) b ≡ p b
unfolding below_where
is_free-below_where n p b lt = listed p 0 n b (omega arith) (omega (arith, lt))

pub is_free-past : (n : ℕ) (p : ℕ → Bool) (b : ℕ) → n ≤ b → is_free (record { blocks = n; free = below_where n p }) b ≡ false
unfolding below_where
is_free-past n p b le = not_behind p 0 n b (omega (arith, le))

-- the least free block, by the lowest bit
pub least_from_lowest : (n from b : ℕ) (bits : List ℕ) → IsLowestBit bits from b → b < n → IsLeastFree (record { blocks = n; free = below_where n (has_bit bits) }) from b
least_from_lowest n from b bits l lt = record {
  among = is_free-below_where n (has_bit bits) b lt ∙ l.is_one;
  enough = l.enough;
  least = λ k le before. is_free-below_where n (has_bit bits) k (omega (arith, before, lt)) ∙ l.lowest k le before;
}

-- no free block, where each bit from a place on is 0 or past the end
pub none_free : (n from : ℕ) (bits : List ℕ) → ((k : ℕ) → from ≤ k → k < n → has_bit bits k ≡ false) → (k : ℕ) → from ≤ k → is_free (record { blocks = n; free = below_where n (has_bit bits) }) k ≡ false
none_free n from bits h k le =
    elim (cases_lt k n) [ inl lt ↦ is_free-below_where n (has_bit bits) k lt ∙ h k le lt | inr past ↦ is_free-past n (has_bit bits) k past ]

-- no block that is listed is reserved
pub unreserved_where-unreserved : (block_size n : ℕ) (test : ℕ → Bool) → All (λ b. ¬ IsReserved block_size b) (below_where n (λ b. not (is_reserved block_size b) && test b))
unfolding below_where
unreserved_where-unreserved block_size n test =
    All-weaker (λ b. (not (is_reserved block_size b) && test b) ≡ true) (λ b. ¬ IsReserved block_size b)
    (λ b passes reserved. both_ways (is_reserved block_size b) (not-true (is_reserved block_size b) (and_parts (not (is_reserved block_size b)) (test b) passes).0) reserved)
    (filter (λ b. not (is_reserved block_size b) && test b) (range_with_len 0 n)) (filter_passes (λ b. not (is_reserved block_size b) && test b) (range_with_len 0 n))

-- one number more
pub length-below_where-more : (n : ℕ) (p : ℕ → Bool) → length (below_where (n + 1) p) ≡ length (below_where n p) + cond (p n) 1 0
unfolding below_where
length-below_where-more n p =
    ap (λ xs. length (filter p xs)) (sym (map-id (range_with_len 0 (n + 1)))) ∙ ap length (filter_of_map_range_with_len_more p (λ (x : ℕ). x) 0 n n (omega arith))
    ∙ length-append (filter p (map (λ (x : ℕ). x) (range_with_len 0 n))) (cond (p n) (n ∷ []) []) ∙ ap (λ xs. length (filter p xs) + length (cond (p n) (n ∷ []) [])) (map-id (range_with_len 0 n))
    ∙ ap (λ k. length (filter p (range_with_len 0 n)) + k) (one_or_none (p n))
  where
    one_or_none : (t : Bool) → length (cond t (n ∷ []) []) ≡ cond t 1 0
    one_or_none true = refl
    one_or_none false = refl

pub below_where-none : (p : ℕ → Bool) → below_where 0 p ≡ []
unfolding below_where
below_where-none p = refl

filter-le : (p : ℕ → Bool) (xs : List ℕ) → length (filter p xs) ≤ length xs
filter-le p [] = omega arith
filter-le p (x ∷ xs) = step (p x) (filter-le p xs)
  where
    step : (t : Bool) → length (filter p xs) ≤ length xs → length (cond t (x ∷ filter p xs) (filter p xs)) ≤ suc (length xs)
    step true h = omega (arith, h)
    step false h = omega (arith, h)

pub length-below_where-le : (n : ℕ) (p : ℕ → Bool) → length (below_where n p) ≤ n
unfolding below_where
length-below_where-le n p = omega (arith, filter-le p (range_with_len 0 n), length-range_with_len 0 n)

-- what passes both tests
filter-filter : (p q : ℕ → Bool) (xs : List ℕ) → filter p (filter q xs) ≡ filter (λ k. q k && p k) xs
filter-filter p q [] = refl
filter-filter p q (x ∷ xs) = step (q x) (p x) (filter-filter p q xs)
  where
    step : (t u : Bool) → filter p (filter q xs) ≡ filter (λ k. q k && p k) xs → filter p (cond t (x ∷ filter q xs) (filter q xs)) ≡ cond (t && p x) (x ∷ filter (λ k. q k && p k) xs) (filter (λ k. q k && p k) xs)
    step true u h = ap (λ ys. cond (p x) (x ∷ ys) ys) h
    step false u h = h

-- a bit that is cleared
pub below_where-cleared : (n b : ℕ) (bits new : List ℕ) → has_bit new b ≡ false → ((k : ℕ) → k ≢ b → has_bit new k ≡ has_bit bits k)
    → below_where n (has_bit new) ≡ filter (λ k. not (eqb k b)) (below_where n (has_bit bits))
unfolding below_where
below_where-cleared n b bits new cleared others =
    same_filter (has_bit new) (λ k. has_bit bits k && not (eqb k b)) 0 n
    (λ k from to.
    elim (cases_eq k b) [
      | inl e ↦ ap (has_bit new) e ∙ cleared ∙ sym (ap (λ t. has_bit bits k && not t) (eq-eqb k b e) ∙ and_right (has_bit bits k) false refl)
      | inr ne ↦ others k ne ∙ sym (ap (λ t. has_bit bits k && not t) (ne_eqb k b ne) ∙ and_true (has_bit bits k))
    ])
    ∙ sym (filter-filter (λ k. not (eqb k b)) (has_bit bits) (range_with_len 0 n))
  where
    and_true : (t : Bool) → (t && true) ≡ t
    and_true true = refl
    and_true false = refl

-- every bit of bytes of ones
pub ones-has_bit : (bytes b : ℕ) → b < 8 * bytes → has_bit (replicate bytes 255) b ≡ true
ones-has_bit bytes b lt =
    ap (λ x. eqb (bit_at x (b % 8)) 1) (get_or-replicate bytes (b / 8) 255 0 (omega (arith, lt))) ∙ agree_below_at (λ k. eqb (bit_at 255 k) 1) (λ k. true) 8 (b % 8) refl (omega arith)

pub all_free-is : (block_size n bytes : ℕ) → n ≤ 8 * bytes → free_in block_size n (replicate bytes 255) ≡ unreserved_where block_size n (λ _. true)
all_free-is block_size n bytes enough =
    ap (λ free. record { blocks = n; free = free }) (below_where-same n (λ b. not (is_reserved block_size b) && has_bit (replicate bytes 255) b) (λ b. not (is_reserved block_size b) && true)
    (λ b lt. ap (λ t. not (is_reserved block_size b) && t) (ones-has_bit bytes b (omega (arith, enough, lt)))))
