-- The tables of the check by bytes, computed entry by entry, and why one look-up does eight bits.
use Rattle.std.proofs.Common.{◌≡◌, ℕ, zero, suc, ◌+◌, ◌*◌, ◌/◌, ◌%◌, ◌<◌, ◌^◌, Bool, true, false, cond, ◌&&◌, eqb, get_or, bit_xor, refl, ap, ◌∙◌, sym, arith}
use Rattle.std.specs.Int.Bits.{xor_assoc, xor_zero_l, xor_zero_r}
use Rattle.std.proofs.lemmas.Nat.{xor_comm, xor_shr, xor_mod, xor_block}
use Rattle.std.proofs.lemmas.Bool.Decides.{Decides-below_and, Decides-eqb}
use Rattle.type_hash.specs.declared.rows.TheConstants.{TABLE, TABLE_BEFORE_ONE, TABLE_BEFORE_TWO, TABLE_BEFORE_THREE}
use Rattle.type_hash.specs.Hash.{crc_bit, crc_byte, eight_bits}

abbrev rows_match : ℕ → Bool
rows_match zero = true
rows_match (suc n) = eqb (get_or TABLE.now n 0) (eight_bits n) && rows_match n

rows_checked : rows_match 256 ≡ true
unfolding crc_bit
rows_checked = refl

pub table_row : (n : ℕ) → n < 256 → get_or TABLE.now n 0 ≡ eight_bits n
table_row =
    (Decides-below_and (λ n. eqb (get_or TABLE.now n 0) (eight_bits n)) (λ n. get_or TABLE.now n 0 ≡ eight_bits n) rows_match (λ n. Decides-eqb _ _) refl (λ _. refl) 256).0 rows_checked

-- each further table is eight bits of the rows of the table before
abbrev one_match : ℕ → Bool
one_match zero = true
one_match (suc n) = eqb (get_or TABLE_BEFORE_ONE.now n 0) (eight_bits (get_or TABLE.now n 0)) && one_match n

one_checked : one_match 256 ≡ true
unfolding crc_bit
one_checked = refl

pub row_before_one : (n : ℕ) → n < 256 → get_or TABLE_BEFORE_ONE.now n 0 ≡ eight_bits (eight_bits n)
row_before_one n h =
    (Decides-below_and (λ n. eqb (get_or TABLE_BEFORE_ONE.now n 0) (eight_bits (get_or TABLE.now n 0))) (λ n. get_or TABLE_BEFORE_ONE.now n 0 ≡ eight_bits (get_or TABLE.now n 0)) one_match (λ n. Decides-eqb _ _) refl (λ _. refl) 256).0 one_checked n h
    ∙ ap eight_bits (table_row n h)

abbrev two_match : ℕ → Bool
two_match zero = true
two_match (suc n) = eqb (get_or TABLE_BEFORE_TWO.now n 0) (eight_bits (get_or TABLE_BEFORE_ONE.now n 0)) && two_match n

two_checked : two_match 256 ≡ true
unfolding crc_bit
two_checked = refl

pub row_before_two : (n : ℕ) → n < 256 → get_or TABLE_BEFORE_TWO.now n 0 ≡ eight_bits (eight_bits (eight_bits n))
row_before_two n h =
    (Decides-below_and (λ n. eqb (get_or TABLE_BEFORE_TWO.now n 0) (eight_bits (get_or TABLE_BEFORE_ONE.now n 0))) (λ n. get_or TABLE_BEFORE_TWO.now n 0 ≡ eight_bits (get_or TABLE_BEFORE_ONE.now n 0)) two_match (λ n. Decides-eqb _ _) refl (λ _. refl) 256).0 two_checked n h
    ∙ ap eight_bits (row_before_one n h)

abbrev three_match : ℕ → Bool
three_match zero = true
three_match (suc n) = eqb (get_or TABLE_BEFORE_THREE.now n 0) (eight_bits (get_or TABLE_BEFORE_TWO.now n 0)) && three_match n

three_checked : three_match 256 ≡ true
unfolding crc_bit
three_checked = refl

pub row_before_three : (n : ℕ) → n < 256 → get_or TABLE_BEFORE_THREE.now n 0 ≡ eight_bits (eight_bits (eight_bits (eight_bits n)))
row_before_three n h =
    (Decides-below_and (λ n. eqb (get_or TABLE_BEFORE_THREE.now n 0) (eight_bits (get_or TABLE_BEFORE_TWO.now n 0))) (λ n. get_or TABLE_BEFORE_THREE.now n 0 ≡ eight_bits (get_or TABLE_BEFORE_TWO.now n 0)) three_match (λ n. Decides-eqb _ _) refl (λ _. refl) 256).0 three_checked n h
    ∙ ap eight_bits (row_before_two n h)

joined_choice : (b : Bool) (x y p : ℕ) → cond b (bit_xor (bit_xor x y) p) (bit_xor x y) ≡ bit_xor (cond b (bit_xor x p) x) y
joined_choice true x y p = xor_assoc x y p ∙ ap (bit_xor x) (xor_comm y p) ∙ sym (xor_assoc x p y)
joined_choice false x y p = refl

double_half : (b : ℕ) → 2 * b / 2 ^ 1 ≡ b
double_half b = omega arith

double_even : (b : ℕ) → 2 * b % 2 ^ 1 ≡ 0
double_even b = omega arith

-- a bit does not touch what stands above it
crc_bit-above : (a b : ℕ) → crc_bit (bit_xor a (2 * b)) ≡ bit_xor (crc_bit a) b
unfolding crc_bit
crc_bit-above a b =
    let half : bit_xor a (2 * b) / 2 ≡ bit_xor (a / 2) b = xor_shr a (2 * b) 1 ∙ ap (bit_xor (a / 2)) (double_half b) in
    let low : bit_xor a (2 * b) % 2 ≡ a % 2 = xor_mod a (2 * b) 1 ∙ ap (bit_xor (a % 2)) (double_even b) ∙ xor_zero_r (a % 2) in
    ap (λ h. cond (eqb (bit_xor a (2 * b) % 2) 1) (bit_xor h 0xEDB88320) h) half
    ∙ ap (λ r. cond (eqb r 1) (bit_xor (bit_xor (a / 2) b) 0xEDB88320) (bit_xor (a / 2) b)) low
    ∙ joined_choice (eqb (a % 2) 1) (a / 2) b 0xEDB88320

one_bit-above : (a b c : ℕ) → c ≡ 2 * b → crc_bit (bit_xor a c) ≡ bit_xor (crc_bit a) b
one_bit-above a b c e = ap (λ x. crc_bit (bit_xor a x)) e ∙ crc_bit-above a b

-- four bits do not touch what stands above them
four_bits-above : (a b c : ℕ) → c ≡ 16 * b → crc_bit (crc_bit (crc_bit (crc_bit (bit_xor a c)))) ≡ bit_xor (crc_bit (crc_bit (crc_bit (crc_bit a)))) b
four_bits-above a b c e =
    ap (λ x. crc_bit (crc_bit (crc_bit x))) (one_bit-above a (8 * b) c (omega arith))
    ∙ ap (λ x. crc_bit (crc_bit x)) (one_bit-above (crc_bit a) (4 * b) (8 * b) (omega arith))
    ∙ ap crc_bit (one_bit-above (crc_bit (crc_bit a)) (2 * b) (4 * b) (omega arith))
    ∙ one_bit-above (crc_bit (crc_bit (crc_bit a))) b (2 * b) refl

pub eight_bits-above : (a b : ℕ) → eight_bits (bit_xor a (b * 256)) ≡ bit_xor (eight_bits a) b
eight_bits-above a b =
    ap (λ x. crc_bit (crc_bit (crc_bit (crc_bit x)))) (four_bits-above a (16 * b) (b * 256) (omega arith))
    ∙ four_bits-above (crc_bit (crc_bit (crc_bit (crc_bit a)))) b (16 * b) refl

-- a number is its low byte and what stands above that
low_and_high : (x : ℕ) → bit_xor (x % 256) (x / 256 * 256) ≡ x
low_and_high x =
    let block = xor_block 8 0 (x / 256) (x % 256) 0 (omega arith) (omega arith) in
    let left : 0 * 256 + x % 256 ≡ x % 256 = omega arith in
    let right : x / 256 * 256 + 0 ≡ x / 256 * 256 = omega arith in
    let whole : x / 256 * 256 + x % 256 ≡ x = omega arith in
    ap (λ l. bit_xor l (x / 256 * 256)) (sym left) ∙ ap (bit_xor (0 * 256 + x % 256)) (sym right) ∙ block
    ∙ ap (λ h. h * 256 + bit_xor (x % 256) 0) (xor_zero_l (x / 256)) ∙ ap (λ l. x / 256 * 256 + l) (xor_zero_r (x % 256)) ∙ whole

pub eight_bits-split : (x : ℕ) → eight_bits x ≡ bit_xor (eight_bits (x % 256)) (x / 256)
eight_bits-split x = ap eight_bits (sym (low_and_high x)) ∙ eight_bits-above (x % 256) (x / 256)

-- one look-up, by the low byte of what the byte makes of the check
pub crc_byte-row : (crc byte : ℕ) → byte < 256 → bit_xor (eight_bits (bit_xor crc byte % 256)) (crc / 256) ≡ crc_byte crc byte
unfolding crc_byte
crc_byte-row crc byte h =
    let none : byte / 256 ≡ 0 = omega arith in
    let high : bit_xor crc byte / 256 ≡ crc / 256 = xor_shr crc byte 8 ∙ ap (bit_xor (crc / 256)) none ∙ xor_zero_r (crc / 256) in
    ap (bit_xor (eight_bits (bit_xor crc byte % 256))) (sym high) ∙ sym (eight_bits-split (bit_xor crc byte))
