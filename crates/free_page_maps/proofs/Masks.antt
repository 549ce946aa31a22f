-- The masks of reserved blocks and of the last byte of a map.
use Rattle.std.proofs.Common.{◌≡◌, ◌≤◌, ◌<◌, ◌+◌, ◌-◌, ◌*◌, ◌/◌, ◌%◌, ◌^◌, ◌&&◌, ◌||◌, not, ℕ, zero, suc, true, false, List, length, get_or, set, refl, ap, sym, ◌∙◌, inl, inr, arith, eqb, leb, bit_and, bit_or, min, max}
use Rattle.std.specs.Int.{bit_at}
use Rattle.std.proofs.lemmas.Bool.{cases_lt, cases_eq, agree_below_at, le-leb, lt-leb, ne_eqb, and_right}
use Rattle.std.proofs.lemmas.List.{get_or_past}
use Rattle.std.proofs.lemmas.Nat.{div-add-mod', mod-mul-add, mod_below}
use Rattle.std.proofs.lemmas.Nat.Bits.{bit_at_and, bit_at_or, bit_at-lt, bit_at-zero, ones_shl, bit_at_mask_inside, bit_at_mask_below}
use Rattle.msf_blocks.specs.Bits.{has_bit}
use Rattle.msf_blocks.specs.Blocks.{IsBlockSize, is_reserved}
use Rattle.msf_blocks.proofs.Sizes.{sized}
use Rattle.msf_blocks.proofs.BitWrites.{has_bit-set_same, has_bit-set_other}

-- where a block stands in its run, by the byte and the bit of it
rem : (e i k : ℕ) → 0 < e → k < 8 → (8 * i + k) % (8 * e) ≡ 8 * (i % e) + k
rem e i k pos lt =
    let split : 8 * i + k ≡ (i / e) * (8 * e) + (8 * (i % e) + k) = omega (arith, div-add-mod' i e) in
    let below = mod_below i e pos in
    ap (λ n. n % (8 * e)) split ∙ mod-mul-add (i / e) (8 * e) (8 * (i % e) + k) (omega (arith, below, lt))

reserved_by : (block_size b r : ℕ) → b % block_size ≡ r → is_reserved block_size b ≡ (eqb b 0 || eqb r 1 || eqb r 2)
reserved_by block_size b r e = ap (λ n. eqb b 0 || eqb n 1 || eqb n 2) e

-- the first byte has the superblock's block and the first blocks of both maps
pub first_mask : (block_size i k : ℕ) → IsBlockSize block_size → i ≡ 0 → k < 8 → eqb (bit_at 248 k) 1 ≡ not (is_reserved block_size (8 * i + k))
first_mask block_size i k size e lt =
    let s = sized block_size size in
    let b : 8 * i + k ≡ k = omega (arith, e) in
    let none : k ≡ 0 * block_size + k = omega arith in
    let r : k % block_size ≡ k = ap (λ n. n % block_size) none ∙ mod-mul-add 0 block_size k (omega (arith, s.least, lt)) in
    agree_below_at (λ k. eqb (bit_at 248 k) 1) (λ k. not (eqb k 0 || eqb k 1 || eqb k 2)) 8 k refl lt
    ∙ ap not (sym (ap (λ n. is_reserved block_size n) b ∙ reserved_by block_size k k r))

later_byte : (block_size i k r : ℕ) → 0 < i → (8 * i + k) % block_size ≡ r → is_reserved block_size (8 * i + k) ≡ (eqb r 1 || eqb r 2)
later_byte block_size i k r pos e =
    let ne : eqb (8 * i + k) 0 ≡ false = ne_eqb (8 * i + k) 0 (λ h. omega (arith, h, pos)) in
    reserved_by block_size (8 * i + k) r e ∙ ap (λ t. t || eqb r 1 || eqb r 2) ne

in_run : (block_size i k : ℕ) → IsBlockSize block_size → k < 8 → (8 * i + k) % block_size ≡ 8 * (i % (block_size / 8)) + k
in_run block_size i k size lt =
    let s = sized block_size size in
    let whole : block_size ≡ 8 * (block_size / 8) = omega (arith, s.eighth) in
    ap (λ n. (8 * i + k) % n) whole ∙ rem (block_size / 8) i k (omega (arith, s.least)) lt

-- the first byte of a later run has blocks of both maps
pub run_mask : (block_size i k : ℕ) → IsBlockSize block_size → 0 < i → i % (block_size / 8) ≡ 0 → k < 8 → eqb (bit_at 249 k) 1 ≡ not (is_reserved block_size (8 * i + k))
run_mask block_size i k size pos e lt =
    let r : (8 * i + k) % block_size ≡ k = in_run block_size i k size lt ∙ ap (λ n. 8 * n + k) e ∙ omega arith in
    agree_below_at (λ k. eqb (bit_at 249 k) 1) (λ k. not (eqb k 1 || eqb k 2)) 8 k refl lt ∙ ap not (sym (later_byte block_size i k k pos r))

-- every other byte has no reserved block
pub full_mask : (block_size i k : ℕ) → IsBlockSize block_size → 0 < i → 0 < i % (block_size / 8) → k < 8 → eqb (bit_at 255 k) 1 ≡ not (is_reserved block_size (8 * i + k))
full_mask block_size i k size pos some lt =
    let r = 8 * (i % (block_size / 8)) + k in
    let one : eqb r 1 ≡ false = ne_eqb r 1 (λ h. omega (arith, h, some)) in
    let two : eqb r 2 ≡ false = ne_eqb r 2 (λ h. omega (arith, h, some)) in
    agree_below_at (λ k. eqb (bit_at 255 k) 1) (λ k. true) 8 k refl lt
    ∙ ap not (sym (later_byte block_size i k r pos (in_run block_size i k size lt) ∙ ap (λ t. t || eqb r 2) one ∙ two))

-- a bit of two bytes joined by `and`
both_bits : (a b : ℕ) → a < 2 → b < 2 → eqb (min a b) 1 ≡ (eqb b 1 && eqb a 1)
both_bits zero zero p q = refl
both_bits zero (suc zero) p q = refl
both_bits (suc zero) zero p q = refl
both_bits (suc zero) (suc zero) p q = refl
both_bits (suc (suc a)) b p q = absurd (omega (arith, p))
both_bits a (suc (suc b)) p q = absurd (omega (arith, q))

-- the bits of the first bytes are cleared where the block is reserved, and the others are as they were
pub record Cleared (bits old : List ℕ) (block_size i : ℕ) : Type 0 where
  pub done : (b : ℕ) → b < 8 * i → has_bit bits b ≡ (not (is_reserved block_size b) && has_bit old b)
  pub rest : (b : ℕ) → 8 * i ≤ b → has_bit bits b ≡ has_bit old b

pub cleared_more : (bits old : List ℕ) (block_size i m : ℕ) → i < length bits → ((k : ℕ) → k < 8 → eqb (bit_at m k) 1 ≡ not (is_reserved block_size (8 * i + k)))
    → Cleared bits old block_size i → Cleared (set bits i (bit_and (get_or bits i 0) m)) old block_size (i + 1)
cleared_more bits old block_size i m lt mask h =
    let x = get_or bits i 0 in
    let here : (b : ℕ) → b / 8 ≡ i → has_bit (set bits i (bit_and x m)) b ≡ (not (is_reserved block_size b) && has_bit old b) =
    λ b e.
    let place : 8 * i + b % 8 ≡ b = omega (arith, e) in
    has_bit-set_same bits i (bit_and x m) b lt e ∙ ap (λ n. eqb n 1) (bit_at_and x m (b % 8)) ∙ both_bits (bit_at x (b % 8)) (bit_at m (b % 8)) (bit_at-lt x (b % 8)) (bit_at-lt m (b % 8))
    ∙ ap (λ t. t && eqb (bit_at x (b % 8)) 1) (mask (b % 8) (omega arith) ∙ ap (λ n. not (is_reserved block_size n)) place)
    ∙ ap (λ j. not (is_reserved block_size b) && eqb (bit_at (get_or bits j 0) (b % 8)) 1) (sym e)
    ∙ ap (λ t. not (is_reserved block_size b) && t) (h.rest b (omega (arith, e)))
    in
    record {
      done = λ b before.
          elim (cases_eq (b / 8) i) [
            | inl e ↦ here b e
            | inr ne ↦ has_bit-set_other bits i (bit_and x m) b ne ∙ h.done b (omega (arith, before, ne))
          ];
      rest = λ b after. has_bit-set_other bits i (bit_and x m) b (λ e. omega (arith, e, after)) ∙ h.rest b (omega (arith, after));
    }

-- a bit past the last byte
past_bits : (bits : List ℕ) (b : ℕ) → length bits ≤ b / 8 → has_bit bits b ≡ false
past_bits bits b le = ap (λ x. eqb (bit_at x (b % 8)) 1) (get_or_past bits (b / 8) 0 le) ∙ ap (λ x. eqb x 1) (bit_at-zero (b % 8))

pub cleared_all : (bits old : List ℕ) (block_size i : ℕ) → length old ≤ i → Cleared bits old block_size i → (b : ℕ) → has_bit bits b ≡ (not (is_reserved block_size b) && has_bit old b)
cleared_all bits old block_size i le h b =
    elim (cases_lt b (8 * i)) [
      | inl lt ↦ h.done b lt
      | inr ge ↦
          let none = past_bits old b (omega (arith, ge, le)) in
          h.rest b ge ∙ none ∙ sym (and_right (not (is_reserved block_size b)) (has_bit old b) none)
    ]

-- the byte of the last block, with ones from the bit past it on
pub filled_bit : (x r k : ℕ) → r < 8 → k < 8 → eqb (bit_at (bit_or x (255 * 2 ^ r % 256)) k) 1 ≡ (leb r k || eqb (bit_at x k) 1)
filled_bit x r k short lt =
    let m = 255 * 2 ^ r % 256 in
    let mask : m ≡ 2 ^ 8 - 2 ^ r = ones_shl 8 r (omega (arith, short)) in
    let bit : eqb (bit_at (bit_or x m) k) 1 ≡ eqb (max (bit_at x k) (bit_at (2 ^ 8 - 2 ^ r) k)) 1 = ap (λ n. eqb n 1) (bit_at_or x m k ∙ ap (λ y. max (bit_at x k) (bit_at y k)) mask) in
    elim (cases_lt k r) [
      | inl below ↦
          let same : max (bit_at x k) 0 ≡ bit_at x k = omega arith in
          bit ∙ ap (λ y. eqb (max (bit_at x k) y) 1) (bit_at_mask_below r 8 k below) ∙ ap (λ y. eqb y 1) same
          ∙ sym (ap (λ t. t || eqb (bit_at x k) 1) (lt-leb r k below))
      | inr above ↦
          let same : max (bit_at x k) 1 ≡ 1 = omega (arith, bit_at-lt x k) in
          bit ∙ ap (λ y. eqb (max (bit_at x k) y) 1) (bit_at_mask_inside r 8 k above lt) ∙ ap (λ y. eqb y 1) same ∙ sym (ap (λ t. t || eqb (bit_at x k) 1) (le-leb r k above))
    ]
