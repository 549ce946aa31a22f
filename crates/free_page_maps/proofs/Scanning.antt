-- The lowest bit that is 1, found by bytes.
use Rattle.std.proofs.Common.{◌≡◌, ◌≤◌, ◌<◌, ◌+◌, ◌-◌, ◌*◌, ◌/◌, ◌%◌, ◌^◌, ℕ, false, List, get_or, refl, ap, sym, ◌∙◌, inl, inr, arith, eqb, w8}
use Rattle.std.specs.Int.{bit_at, trailing_zeros}
use Rattle.std.proofs.lemmas.Bool.{cases_lt}
use Rattle.std.proofs.lemmas.Nat.{shr-shr, shr_le}
use Rattle.std.proofs.lemmas.Nat.Bits.{bit_at-trailing_zeros, bit_at_above, bit_at-zero}
use Rattle.msf_blocks.specs.Bits.{has_bit}
use Rattle.free_page_maps.specs.Lowest.{IsFirstNonzero, IsLowestBit}

-- a bit by its byte and its place there
pub has_bit-at : (bits : List ℕ) (i k b : ℕ) → k < 8 → b ≡ 8 * i + k → has_bit bits b ≡ eqb (bit_at (get_or bits i 0) k) 1
has_bit-at bits i k b lt e =
    let byte : b / 8 ≡ i = omega (arith, lt, e) in
    let place : b % 8 ≡ k = omega (arith, lt, e) in
    ap (λ j. eqb (bit_at (get_or bits j 0) (b % 8)) 1) byte ∙ ap (λ j. eqb (bit_at (get_or bits i 0) j) 1) place

-- the bits of a byte that is 0
zero_byte : (bits : List ℕ) (b : ℕ) → get_or bits (b / 8) 0 ≡ 0 → has_bit bits b ≡ false
zero_byte bits b e = ap (λ x. eqb (bit_at x (b % 8)) 1) e ∙ ap (λ x. eqb x 1) (bit_at-zero (b % 8))

-- the bits from a place on of a byte that is shifted down to it
shifted : (x r t : ℕ) → bit_at (x / 2 ^ r) t ≡ bit_at x (r + t)
shifted x r t = ap (λ y. y % 2) (shr-shr x r t)

-- the first byte, of which the bits from the first place on are not all 0
pub in_first : (bits : List ℕ) (from i r : ℕ) → get_or bits i 0 < 256 → r < 8 → from ≡ 8 * i + r → 0 < get_or bits i 0 / 2 ^ r
    → IsLowestBit bits from (from + trailing_zeros w8 (get_or bits i 0 / 2 ^ r))
in_first bits from i r byte lt e some =
    let x = get_or bits i 0 in
    let high = x / 2 ^ r in
    let z = trailing_zeros w8 high in
    let low : high < 256 = omega (arith, shr_le x r, byte) in
    let t = bit_at-trailing_zeros w8 high some low in
    let one : bit_at x (r + z) ≡ 1 = sym (shifted x r z) ∙ t.1 in
    let inside : r + z < 8 = elim (cases_lt (r + z) 8) [ inl in' ↦ in' | inr out ↦ absurd (omega (arith, one, bit_at_above x 8 (r + z) byte out)) ] in
    record {
      is_one = has_bit-at bits i (r + z) (from + z) inside (omega (arith, e)) ∙ ap (λ y. eqb y 1) one;
      enough = omega arith;
      lowest = λ k le before.
          let u : k - from < z = omega arith in
          has_bit-at bits i (r + (k - from)) k (omega (arith, inside)) (omega (arith, e)) ∙ ap (λ y. eqb y 1) (sym (shifted x r (k - from)) ∙ t.2 (k - from) u);
    }

-- a later byte
pub in_later : (bits : List ℕ) (from next i : ℕ) → get_or bits i 0 < 256 → from ≤ 8 * next → ((k : ℕ) → from ≤ k → k < 8 * next → has_bit bits k ≡ false) → IsFirstNonzero bits next i
    → IsLowestBit bits from (8 * i + trailing_zeros w8 (get_or bits i 0))
in_later bits from next i byte le before first =
    let x = get_or bits i 0 in
    let z = trailing_zeros w8 x in
    let t = bit_at-trailing_zeros w8 x first.nonzero byte in
    record {
      is_one = has_bit-at bits i z (8 * i + z) t.0 refl ∙ ap (λ y. eqb y 1) t.1;
      enough = omega (arith, le, first.enough);
      lowest = λ k le before'.
          elim (cases_lt k (8 * next)) [
            | inl lt ↦ before k le lt
            | inr ge ↦ elim (cases_lt k (8 * i)) [
              | inl lt ↦ zero_byte bits k (first.zeros (k / 8) (omega (arith, ge)) (omega (arith, lt)))
              | inr ge' ↦
                  let u : k - 8 * i < z = omega (arith, before', ge') in
                  has_bit-at bits i (k - 8 * i) k (omega (arith, u, t.0)) (omega (arith, ge')) ∙ ap (λ y. eqb y 1) (t.2 (k - 8 * i) u)
            ]
          ];
    }

-- no byte
pub in_none : (bits : List ℕ) (from next : ℕ) → ((k : ℕ) → from ≤ k → k < 8 * next → has_bit bits k ≡ false) → ((k : ℕ) → next ≤ k → get_or bits k 0 ≡ 0)
    → (k : ℕ) → from ≤ k → has_bit bits k ≡ false
in_none bits from next before zeros k le =
    elim (cases_lt k (8 * next)) [ inl lt ↦ before k le lt | inr ge ↦ zero_byte bits k (zeros (k / 8) (omega (arith, ge))) ]

-- the rest of the first byte, if it is 0
pub none_in_first : (bits : List ℕ) (from i r : ℕ) → get_or bits i 0 < 256 → r < 8 → from ≡ 8 * i + r → get_or bits i 0 / 2 ^ r ≡ 0
    → (k : ℕ) → from ≤ k → k < 8 * (i + 1) → has_bit bits k ≡ false
none_in_first bits from i r byte lt e none k le before =
    let t = k - from in
    has_bit-at bits i (r + t) k (omega arith) (omega arith) ∙ ap (λ x. eqb x 1) (sym (shifted (get_or bits i 0) r t) ∙ ap (λ x. bit_at x t) none ∙ bit_at-zero t)
