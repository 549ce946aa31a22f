-- The text of a map has the bits that it should have, and is read again as the same map.
use Rattle.std.proofs.Common.{◌≡◌, ◌≤◌, ◌<◌, ◌+◌, ◌-◌, ◌*◌, ◌/◌, ◌%◌, ◌^◌, ◌||◌, ◌&&◌, not, ℕ, zero, suc, Bool, true, false, List, [], ◌∷◌, ◌++◌, get_or, length, map, take, All, refl, ap, sym, ◌∙◌, lit<, bit_or, inl, inr, arith, eqb, leb, cond}
use Rattle.std.specs.Int.{bit_at}
use Rattle.std.specs.List.{list_any, range_with_len}
use Rattle.std.proofs.lemmas.Bool.{agree_below_at, cases_lt, cases_Bool, le-leb, lt-leb, and_from, not_from_false, false_from_ne_true, eqb-true}
use Rattle.std.proofs.lemmas.List.{get_or-take}
use Rattle.std.proofs.lemmas.Nat.{div-add-mod', mod_below, or_of_8}
use Rattle.std.proofs.lemmas.List.Elements.{All-head, All-tail}
use Rattle.std.proofs.lemmas.List.FromFn.{get_or-map-range_with_len, length-map-range_with_len, map-range_with_len_more}
use Rattle.std.proofs.lemmas.Nat.Bits.{bit_at_lowest, bit_at-suc, bit_at-lt, same_from_bits_below}
use Rattle.msf_blocks.specs.Bits.{has_bit}
use Rattle.msf_blocks.specs.Blocks.{IsReserved, is_reserved, map_blocks}
use Rattle.msf_blocks.proofs.Numbers.{AreBytes}
use Rattle.free_page_maps.specs.FreeBlocks.{FreeBlocks, below_where, free_in, is_free, unreserved_where}
use Rattle.free_page_maps.specs.MapText.{map_bit, map_text, number_where}
use Rattle.free_page_maps.proofs.Listing.{below_where-same, is_free-below_where}
use Rattle.free_page_maps.proofs.Masks.{filled_bit}
use Rattle.free_page_maps.proofs.Scanning.{has_bit-at}

-- a number that is put together from its bits
half : (t : Bool) (n : ℕ) → (cond t 1 0 + 2 * n) / 2 ≡ n
half true n = omega arith
half false n = omega arith

low : (t : Bool) (n : ℕ) → (cond t 1 0 + 2 * n) % 2 ≡ cond t 1 0
low true n = omega arith
low false n = omega arith

number_where-same : (n : ℕ) (p q : ℕ → Bool) → ((k : ℕ) → p k ≡ q k) → number_where n p ≡ number_where n q
number_where-same zero p q h = refl
number_where-same (suc n) p q h = ap (λ t. cond t 1 0 + 2 * number_where n (λ k. p (k + 1))) (h 0) ∙ ap (λ x. cond (q 0) 1 0 + 2 * x) (number_where-same n (λ k. p (k + 1)) (λ k. q (k + 1)) (λ k. h (k + 1)))

map_same : (f g : ℕ → ℕ) → ((i : ℕ) → f i ≡ g i) → (xs : List ℕ) → map f xs ≡ map g xs
map_same f g h [] = refl
map_same f g h (x ∷ xs) = ap (λ y. y ∷ map f xs) (h x) ∙ ap (λ ys. g x ∷ ys) (map_same f g h xs)

bit_at-number_where : (n : ℕ) (test : ℕ → Bool) (k : ℕ) → k < n → bit_at (number_where n test) k ≡ cond (test k) 1 0
bit_at-number_where zero test k lt = absurd (omega (arith, lt))
bit_at-number_where (suc n) test zero lt = bit_at_lowest (number_where (suc n) test) ∙ low (test 0) (number_where n (λ k. test (k + 1)))
bit_at-number_where (suc n) test (suc k) lt =
    bit_at-suc (number_where (suc n) test) k ∙ ap (λ x. bit_at x k) (half (test 0) (number_where n (λ k. test (k + 1))))
    ∙ bit_at-number_where n (λ k. test (k + 1)) k (omega (arith, lt)) ∙ ap (λ j. cond (test j) 1 0) (omega arith)

number_where-lt : (test : ℕ → Bool) → number_where 8 test < 256
number_where-lt test =
    let one : (t : Bool) → cond t 1 0 ≤ 1 = λ t. elim t as (λ u. cond u 1 0 ≤ 1) [ true ↦ omega arith | false ↦ omega arith ] in
    omega (arith, one (test 0), one (test 1), one (test 2), one (test 3), one (test 4), one (test 5), one (test 6), one (test 7))

-- a bit by its test
bit_by_test : (n : ℕ) (t : Bool) → n < 2 → eqb n 1 ≡ t → n ≡ cond t 1 0
bit_by_test zero true lt e = absurd cc
bit_by_test zero false lt e = refl
bit_by_test (suc zero) true lt e = refl
bit_by_test (suc zero) false lt e = absurd cc
bit_by_test (suc (suc n)) t lt e = absurd (omega (arith, lt))

-- a byte is what its bits make
pub byte_from_bits : (x : ℕ) (test : ℕ → Bool) → x < 256 → ((k : ℕ) → k < 8 → eqb (bit_at x k) 1 ≡ test k) → x ≡ number_where 8 test
byte_from_bits x test lt bits =
    same_from_bits_below 8 x (number_where 8 test) lt (number_where-lt test)
    (λ k short. bit_by_test (bit_at x k) (test k) (bit_at-lt x k) (bits k short) ∙ sym (bit_at-number_where 8 test k short))

-- bits below n as they stand, and ones from there on
abbrev pub padded_bit : ℕ → List ℕ → ℕ → Bool
padded_bit n bits b = leb n b || has_bit bits b

-- so many bytes of them
abbrev pub padded_text : ℕ → List ℕ → ℕ → List ℕ
padded_text n bits bytes = map (λ i. number_where 8 (λ k. padded_bit n bits (8 * i + k))) (range_with_len 0 bytes)

pub padded_text-more : (n : ℕ) (bits : List ℕ) (i byte : ℕ) (maps more : List ℕ) → maps ≡ padded_text n bits i → byte ≡ number_where 8 (λ k. padded_bit n bits (8 * i + k))
    → more ≡ maps ++ byte ∷ [] → more ≡ padded_text n bits (i + 1)
padded_text-more n bits i byte maps more before is pushed =
    let f = λ (j : ℕ). number_where 8 (λ k. padded_bit n bits (8 * j + k)) in
    pushed ∙ ap (λ xs. xs ++ byte ∷ []) before ∙ ap (λ x. padded_text n bits i ++ x ∷ []) is ∙ sym (map-range_with_len_more f 0 i i (omega arith))

pub kept_byte : (n i : ℕ) (bits : List ℕ) → AreBytes bits → i < n / 8 → get_or bits i 0 ≡ number_where 8 (λ k. padded_bit n bits (8 * i + k))
kept_byte n i bits bytes lt =
    byte_from_bits (get_or bits i 0) (λ k. padded_bit n bits (8 * i + k)) (bytes i)
    (λ k short. sym (ap (λ t. t || has_bit bits (8 * i + k)) (lt-leb n (8 * i + k) (omega (arith, lt, short))) ∙ has_bit-at bits i k (8 * i + k) short refl))

pub last_byte : (n i : ℕ) (bits : List ℕ) → AreBytes bits → i ≡ n / 8 → bit_or (get_or bits i 0) (255 * 2 ^ (n % 8) % 256) ≡ number_where 8 (λ k. padded_bit n bits (8 * i + k))
last_byte n i bits bytes is =
    let x = get_or bits i 0 in
    let r = n % 8 in
    let short : r < 8 = omega arith in
    byte_from_bits (bit_or x (255 * 2 ^ r % 256)) (λ k. padded_bit n bits (8 * i + k)) (or_of_8 x (255 * 2 ^ r % 256) (bytes i) (mod_below (255 * 2 ^ r) 256 (lit< tt)))
    (λ k lt.
    filled_bit x r k short lt
    ∙ elim (cases_lt k r) [
      | inl below ↦ ap (λ t. t || eqb (bit_at x k) 1) (lt-leb r k below ∙ sym (lt-leb n (8 * i + k) (omega (arith, is, below))))
      | inr above ↦ ap (λ t. t || eqb (bit_at x k) 1) (le-leb r k above ∙ sym (le-leb n (8 * i + k) (omega (arith, is, above))))
    ]
    ∙ ap (λ t. leb n (8 * i + k) || t) (sym (has_bit-at bits i k (8 * i + k) lt refl)))

pub past_byte : (n i : ℕ) (bits : List ℕ) → n ≤ 8 * i → 255 ≡ number_where 8 (λ k. padded_bit n bits (8 * i + k))
past_byte n i bits le =
    byte_from_bits 255 (λ k. padded_bit n bits (8 * i + k)) (lit< tt)
    (λ k lt. agree_below_at (λ k. eqb (bit_at 255 k) 1) (λ k. true) 8 k refl lt ∙ sym (ap (λ t. t || has_bit bits (8 * i + k)) (le-leb n (8 * i + k) (omega (arith, le)))))

-- the bit that a map has, by the bits that it is kept in
pub map_bit-is : (bits : List ℕ) (n b : ℕ) → map_bit (record { blocks = n; free = below_where n (has_bit bits) }) b ≡ (leb n b || has_bit bits b)
map_bit-is bits n b =
    let free = is_free (record { blocks = n; free = below_where n (has_bit bits) }) b in
    elim (cases_lt b n) [
      | inl lt ↦ ap (λ t. leb n b || t) (is_free-below_where n (has_bit bits) b lt)
      | inr le ↦ ap (λ t. t || free) (le-leb n b le) ∙ sym (ap (λ t. t || has_bit bits b) (le-leb n b le))
    ]

-- a free block is not reserved
free_unreserved : (block_size : ℕ) (free : List ℕ) (b : ℕ) → All (λ x. ¬ IsReserved block_size x) free → list_any (λ x. eqb x b) free ≡ true → is_reserved block_size b ≡ false
free_unreserved block_size [] b all e = absurd cc
free_unreserved block_size (x ∷ free) b all e =
    elim (cases_Bool (eqb x b)) [
      | inl here ↦ ap (is_reserved block_size) (sym (eqb-true x b here)) ∙ false_from_ne_true (is_reserved block_size x) (All-head (λ x. ¬ IsReserved block_size x) x free all)
      | inr not_here ↦ free_unreserved block_size free b (All-tail (λ x. ¬ IsReserved block_size x) x free all) (sym (ap (λ t. t || list_any (λ x. eqb x b) free) not_here) ∙ e)
    ]

-- what is written is read again
pub free_in-again : (block_size n : ℕ) (bits maps : List ℕ) → All (λ x. ¬ IsReserved block_size x) (below_where n (has_bit bits))
    → ((b : ℕ) → b < n → has_bit maps b ≡ (leb n b || has_bit bits b)) → free_in block_size n maps ≡ record { blocks = n; free = below_where n (has_bit bits) }
free_in-again block_size n bits maps all h =
    let each : (b : ℕ) → b < n → (not (is_reserved block_size b) && has_bit maps b) ≡ has_bit bits b =
    λ b lt.
    let same : has_bit maps b ≡ has_bit bits b = h b lt ∙ ap (λ t. t || has_bit bits b) (lt-leb n b lt) in
    elim (cases_Bool (has_bit bits b)) [
      | inl one ↦
          let listed = is_free-below_where n (has_bit bits) b lt ∙ one in
          and_from (not (is_reserved block_size b)) (has_bit maps b) (not_from_false (is_reserved block_size b) (free_unreserved block_size (below_where n (has_bit bits)) b all listed)) (same ∙ one) ∙ sym one
      | inr none ↦ ap (λ t. not (is_reserved block_size b) && t) (same ∙ none) ∙ and_false (not (is_reserved block_size b)) ∙ sym none
    ]
    in
    ap (λ free. record { blocks = n; free = free }) (below_where-same n (λ b. not (is_reserved block_size b) && has_bit maps b) (has_bit bits) each)
  where
    and_false : (t : Bool) → (t && false) ≡ false
    and_false true = refl
    and_false false = refl

-- what is kept of the maps that were read
pub free_in-gathered : (block_size n bytes : ℕ) (maps bits : List ℕ) → n ≤ 8 * bytes → ((b : ℕ) → has_bit bits b ≡ (not (is_reserved block_size b) && has_bit (take bytes maps) b))
    → record { blocks = n; free = below_where n (has_bit bits) } ≡ free_in block_size n maps
free_in-gathered block_size n bytes maps bits enough h =
    ap (λ free. record { blocks = n; free = free }) (below_where-same n (has_bit bits) (λ b. not (is_reserved block_size b) && has_bit maps b)
    (λ b lt. h b ∙ ap (λ x. not (is_reserved block_size b) && eqb (bit_at x (b % 8)) 1) (get_or-take bytes maps (b / 8) 0 (omega (arith, enough, lt)))))

-- the padded bits are the text of the map
pub padded-map_text : (block_size n : ℕ) (bits : List ℕ)
    → padded_text n bits (map_blocks block_size n * block_size) ≡ map_text block_size (record { blocks = n; free = below_where n (has_bit bits) })
unfolding map_text
padded-map_text block_size n bits =
    map_same (λ i. number_where 8 (λ k. padded_bit n bits (8 * i + k))) (λ i. number_where 8 (λ k. map_bit (record { blocks = n; free = below_where n (has_bit bits) }) (8 * i + k)))
    (λ i. number_where-same 8 (λ k. padded_bit n bits (8 * i + k)) (λ k. map_bit (record { blocks = n; free = below_where n (has_bit bits) }) (8 * i + k)) (λ k. sym (map_bit-is bits n (8 * i + k)))) (range_with_len 0 (map_blocks block_size n * block_size))

-- a test as a bit
as_test : (t : Bool) → eqb (cond t 1 0) 1 ≡ t
as_test true = refl
as_test false = refl

-- the bits of the padded bytes
padded-has_bit : (n m : ℕ) (bits : List ℕ) (b : ℕ) → b < 8 * m → has_bit (padded_text n bits m) b ≡ padded_bit n bits b
padded-has_bit n m bits b lt =
    let f = λ (i : ℕ). number_where 8 (λ k. padded_bit n bits (8 * i + k)) in
    let i = b / 8 in
    let k = b % 8 in
    let byte = get_or-map-range_with_len f 0 m i i 0 (omega (arith, lt)) (omega arith) in
    let place : 8 * i + k ≡ b = omega arith in
    ap (λ x. eqb (bit_at x k) 1) byte ∙ ap (λ x. eqb x 1) (bit_at-number_where 8 (λ k. padded_bit n bits (8 * i + k)) k (omega arith)) ∙ as_test (padded_bit n bits (8 * i + k)) ∙ ap (padded_bit n bits) place

-- the meaningful blocks of a map have a bit for each block
pub map_blocks-enough : (block_size n : ℕ) → 0 < block_size → n ≤ 8 * (map_blocks block_size n * block_size)
map_blocks-enough block_size n pos =
    let w = 8 * block_size in
    let whole = div-add-mod' (n + (w - 1)) w in
    let below = mod_below (n + (w - 1)) w (omega (arith, pos)) in
    omega (arith, whole, below, pos)

-- what is written is the text of the map, and is read again as the same map
pub text_and_again : (block_size n : ℕ) (bits maps : List ℕ) → 0 < block_size → All (λ x. ¬ IsReserved block_size x) (below_where n (has_bit bits))
    → maps ≡ padded_text n bits (map_blocks block_size n * block_size)
    → (maps ≡ map_text block_size (record { blocks = n; free = below_where n (has_bit bits) })) × (free_in block_size n maps ≡ record { blocks = n; free = below_where n (has_bit bits) })
text_and_again block_size n bits maps pos all is =
    let enough = map_blocks-enough block_size n pos in (
      is ∙ padded-map_text block_size n bits,
      free_in-again block_size n bits maps all
          (λ b lt. ap (λ xs. has_bit xs b) is ∙ padded-has_bit n (map_blocks block_size n * block_size) bits b (omega (arith, enough, lt))),
    )

-- ---- the text of any map

pub length-map_text : (block_size : ℕ) (m : FreeBlocks) → length (map_text block_size m) ≡ map_blocks block_size m.blocks * block_size
unfolding map_text
length-map_text block_size m = length-map-range_with_len (λ i. number_where 8 (λ k. map_bit m (8 * i + k))) 0 (map_blocks block_size m.blocks * block_size)

pub has_bit-map_text : (block_size : ℕ) (m : FreeBlocks) (b : ℕ) → 0 < block_size → b < m.blocks → has_bit (map_text block_size m) b ≡ is_free m b
unfolding map_text
has_bit-map_text block_size m b pos lt =
    let f = λ (i : ℕ). number_where 8 (λ k. map_bit m (8 * i + k)) in
    let i = b / 8 in
    let k = b % 8 in
    let enough = map_blocks-enough block_size m.blocks pos in
    let byte = get_or-map-range_with_len f 0 (map_blocks block_size m.blocks * block_size) i i 0 (omega (arith, enough, lt)) (omega arith) in
    let place : 8 * i + k ≡ b = omega arith in
    ap (λ x. eqb (bit_at x k) 1) byte ∙ ap (λ x. eqb x 1) (bit_at-number_where 8 (λ k. map_bit m (8 * i + k)) k (omega arith)) ∙ as_test (map_bit m (8 * i + k)) ∙ ap (map_bit m) place
    ∙ ap (λ t. t || is_free m b) (lt-leb m.blocks b lt)

-- what is written of a map that a test tells is read again
pub map_again : (block_size n : ℕ) (test : ℕ → Bool) → 0 < block_size → free_in block_size n (map_text block_size (unreserved_where block_size n test)) ≡ unreserved_where block_size n test
map_again block_size n test pos =
    let m = unreserved_where block_size n test in
    let unreserved = λ (b : ℕ). not (is_reserved block_size b) in
    ap (λ free. record { blocks = n; free = free })
    (below_where-same n (λ b. unreserved b && has_bit (map_text block_size m) b) (λ b. unreserved b && test b)
    (λ b lt. ap (λ t. unreserved b && t) (has_bit-map_text block_size m b pos lt ∙ is_free-below_where n (λ b. unreserved b && test b) b lt) ∙ twice (unreserved b) (test b)))
  where
    twice : (t u : Bool) → (t && (t && u)) ≡ (t && u)
    twice true u = refl
    twice false u = refl
