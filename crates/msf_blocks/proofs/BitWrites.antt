-- A bit that is set or cleared, and the others.
use Rattle.std.proofs.Common.{◌≡◌, ◌<◌, ◌-◌, ◌/◌, ◌%◌, ◌*◌, ◌^◌, ◌≢◌, ℕ, true, false, List, length, get_or, set, refl, ap, sym, ◌∙◌, inl, inr, arith, eqb, bit_and, bit_or, w8}
use Rattle.std.specs.Int.{bit_at}
use Rattle.std.proofs.lemmas.Bool.{cases_eq}
use Rattle.std.proofs.lemmas.List.{get_or-set_same, get_or-set_other}
use Rattle.std.proofs.lemmas.Nat.Bits.{bit_at_set_same, bit_at_set_other, bit_at_clear_same, bit_at_clear_other}
use Rattle.msf_blocks.specs.Bits.{has_bit}

-- A byte that is written has the bits of the new one, and the other bytes have theirs.
pub has_bit-set_same : (bits : List ℕ) (i n k : ℕ) → i < length bits → k / 8 ≡ i → has_bit (set bits i n) k ≡ eqb (bit_at n (k % 8)) 1
has_bit-set_same bits i n k lt e = ap (λ x. eqb (bit_at x (k % 8)) 1) (ap (λ j. get_or (set bits i n) j 0) e ∙ get_or-set_same bits i n 0 lt)

pub has_bit-set_other : (bits : List ℕ) (i n k : ℕ) → (k / 8 ≡ i → ⊥) → has_bit (set bits i n) k ≡ has_bit bits k
has_bit-set_other bits i n k ne = ap (λ x. eqb (bit_at x (k % 8)) 1) (get_or-set_other bits i (k / 8) n 0 ne)

pub has_bit-set : (bits : List ℕ) (b : ℕ) → b / 8 < length bits → has_bit (set bits (b / 8) (bit_or (get_or bits (b / 8) 0) (1 * 2 ^ (b % 8) % 256))) b ≡ true
has_bit-set bits b lt =
    has_bit-set_same bits (b / 8) (bit_or (get_or bits (b / 8) 0) (1 * 2 ^ (b % 8) % 256)) b lt refl
    ∙ ap (λ n. eqb n 1) (bit_at_set_same w8 (get_or bits (b / 8) 0) (b % 8) (omega arith))

pub has_bit-clear : (bits : List ℕ) (b : ℕ) → b / 8 < length bits → has_bit (set bits (b / 8) (bit_and (get_or bits (b / 8) 0) (255 - 1 * 2 ^ (b % 8) % 256))) b ≡ false
has_bit-clear bits b lt =
    has_bit-set_same bits (b / 8) (bit_and (get_or bits (b / 8) 0) (255 - 1 * 2 ^ (b % 8) % 256)) b lt refl
    ∙ ap (λ n. eqb n 1) (bit_at_clear_same w8 (get_or bits (b / 8) 0) (b % 8) (omega arith))

other_place : (k b : ℕ) → k ≢ b → k / 8 ≡ b / 8 → k % 8 ≢ b % 8
other_place k b ne e f = ne (omega (arith, e, f))

pub has_bit-set_others : (bits : List ℕ) (b k : ℕ) → b / 8 < length bits → k ≢ b → has_bit (set bits (b / 8) (bit_or (get_or bits (b / 8) 0) (1 * 2 ^ (b % 8) % 256))) k ≡ has_bit bits k
has_bit-set_others bits b k lt ne =
    let n = bit_or (get_or bits (b / 8) 0) (1 * 2 ^ (b % 8) % 256) in
    elim (cases_eq (k / 8) (b / 8)) [
      | inl e ↦ has_bit-set_same bits (b / 8) n k lt e ∙ ap (λ x. eqb x 1) (bit_at_set_other w8 (get_or bits (b / 8) 0) (b % 8) (omega arith) (k % 8) (other_place k b ne e)) ∙ ap (λ i. eqb (bit_at (get_or bits i 0) (k % 8)) 1) (sym e)
      | inr d ↦ has_bit-set_other bits (b / 8) n k d
    ]

pub has_bit-clear_others : (bits : List ℕ) (b k : ℕ) → b / 8 < length bits → k ≢ b → has_bit (set bits (b / 8) (bit_and (get_or bits (b / 8) 0) (255 - 1 * 2 ^ (b % 8) % 256))) k ≡ has_bit bits k
has_bit-clear_others bits b k lt ne =
    let n = bit_and (get_or bits (b / 8) 0) (255 - 1 * 2 ^ (b % 8) % 256) in
    elim (cases_eq (k / 8) (b / 8)) [
      | inl e ↦ has_bit-set_same bits (b / 8) n k lt e ∙ ap (λ x. eqb x 1) (bit_at_clear_other w8 (get_or bits (b / 8) 0) (b % 8) (omega arith) (k % 8) (omega arith) (other_place k b ne e)) ∙ ap (λ i. eqb (bit_at (get_or bits i 0) (k % 8)) 1) (sym e)
      | inr d ↦ has_bit-set_other bits (b / 8) n k d
    ]
