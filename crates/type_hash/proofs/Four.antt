-- Why four look-ups do four bytes: the bits of the check go through exclusive-or.
use Rattle.std.proofs.Common.{◌≡◌, ℕ, zero, suc, ◌+◌, ◌*◌, ◌/◌, ◌%◌, ◌<◌, ◌^◌, cond, eqb, [], ◌∷◌, fold, bit_xor, refl, ap, ◌∙◌, sym, arith}
use Rattle.std.specs.Int.Bits.{xor_assoc, xor_self, xor_zero_l, xor_zero_r}
use Rattle.std.proofs.lemmas.Nat.{xor_comm, xor_shr, xor_mod, xor_block}
use Rattle.type_hash.specs.Hash.{crc_bit, crc_byte, eight_bits, word}
use Rattle.type_hash.proofs.Table.{eight_bits-above, eight_bits-split}

xor_twice : (p y : ℕ) → bit_xor p (bit_xor p y) ≡ y
xor_twice p y = sym (xor_assoc p p y) ∙ ap (λ z. bit_xor z y) (xor_self p) ∙ xor_zero_l y

xor_right : (x y p : ℕ) → bit_xor (bit_xor x y) p ≡ bit_xor (bit_xor x p) y
xor_right x y p = xor_assoc x y p ∙ ap (bit_xor x) (xor_comm y p) ∙ sym (xor_assoc x p y)

xor_both : (x y p : ℕ) → bit_xor x y ≡ bit_xor (bit_xor x p) (bit_xor y p)
xor_both x y p =
    ap (bit_xor x) (sym (xor_twice p y) ∙ ap (bit_xor p) (xor_comm p y)) ∙ sym (xor_assoc x p (bit_xor y p))

both_choices : (m n x y p : ℕ) → m < 2 → n < 2 → cond (eqb (bit_xor m n) 1) (bit_xor (bit_xor x y) p) (bit_xor x y) ≡ bit_xor (cond (eqb m 1) (bit_xor x p) x) (cond (eqb n 1) (bit_xor y p) y)
both_choices zero zero x y p hm hn = refl
both_choices zero (suc zero) x y p hm hn = xor_assoc x y p
both_choices zero (suc (suc n)) x y p hm hn = absurd (omega (arith, hn))
both_choices (suc zero) zero x y p hm hn = xor_right x y p
both_choices (suc zero) (suc zero) x y p hm hn = xor_both x y p
both_choices (suc zero) (suc (suc n)) x y p hm hn = absurd (omega (arith, hn))
both_choices (suc (suc m)) n x y p hm hn = absurd (omega (arith, hm))

-- bits go through exclusive-or
crc_bit-both : (a b : ℕ) → crc_bit (bit_xor a b) ≡ bit_xor (crc_bit a) (crc_bit b)
unfolding crc_bit
crc_bit-both a b =
    let low : bit_xor a b % 2 ≡ bit_xor (a % 2) (b % 2) = xor_mod a b 1 in
    ap (λ h. cond (eqb (bit_xor a b % 2) 1) (bit_xor h 0xEDB88320) h) (xor_shr a b 1)
    ∙ ap (λ r. cond (eqb r 1) (bit_xor (bit_xor (a / 2) (b / 2)) 0xEDB88320) (bit_xor (a / 2) (b / 2))) low
    ∙ both_choices (a % 2) (b % 2) (a / 2) (b / 2) 0xEDB88320 (omega arith) (omega arith)

two_bits-both : (a b : ℕ) → crc_bit (crc_bit (bit_xor a b)) ≡ bit_xor (crc_bit (crc_bit a)) (crc_bit (crc_bit b))
two_bits-both a b = ap crc_bit (crc_bit-both a b) ∙ crc_bit-both (crc_bit a) (crc_bit b)

four_bits-both : (a b : ℕ) → crc_bit (crc_bit (crc_bit (crc_bit (bit_xor a b)))) ≡ bit_xor (crc_bit (crc_bit (crc_bit (crc_bit a)))) (crc_bit (crc_bit (crc_bit (crc_bit b))))
four_bits-both a b =
    ap (λ x. crc_bit (crc_bit x)) (two_bits-both a b) ∙ two_bits-both (crc_bit (crc_bit a)) (crc_bit (crc_bit b))

eight_bits-both : (a b : ℕ) → eight_bits (bit_xor a b) ≡ bit_xor (eight_bits a) (eight_bits b)
eight_bits-both a b =
    ap (λ x. crc_bit (crc_bit (crc_bit (crc_bit x)))) (four_bits-both a b)
    ∙ four_bits-both (crc_bit (crc_bit (crc_bit (crc_bit a)))) (crc_bit (crc_bit (crc_bit (crc_bit b))))

-- two, three and four bytes of bits, of the low byte and of what stands above it
two_bytes-split : (x : ℕ) → eight_bits (eight_bits x) ≡ bit_xor (eight_bits (eight_bits (x % 256))) (eight_bits (x / 256))
two_bytes-split x = ap eight_bits (eight_bits-split x) ∙ eight_bits-both (eight_bits (x % 256)) (x / 256)

three_bytes-split : (x : ℕ) → eight_bits (eight_bits (eight_bits x)) ≡ bit_xor (eight_bits (eight_bits (eight_bits (x % 256)))) (eight_bits (eight_bits (x / 256)))
three_bytes-split x = ap eight_bits (two_bytes-split x) ∙ eight_bits-both (eight_bits (eight_bits (x % 256))) (eight_bits (x / 256))

four_bytes-split : (x : ℕ) → eight_bits (eight_bits (eight_bits (eight_bits x))) ≡ bit_xor (eight_bits (eight_bits (eight_bits (eight_bits (x % 256))))) (eight_bits (eight_bits (eight_bits (x / 256))))
four_bytes-split x = ap eight_bits (three_bytes-split x) ∙ eight_bits-both (eight_bits (eight_bits (eight_bits (x % 256)))) (eight_bits (eight_bits (x / 256)))

-- a byte below what stands above it is joined to it
byte_below : (a w : ℕ) → a < 256 → bit_xor a (w * 256) ≡ a + 256 * w
byte_below a w h =
    let block = xor_block 8 0 w a 0 (omega arith) (omega arith) in
    let left : 0 * 256 + a ≡ a = omega arith in
    let right : w * 256 + 0 ≡ w * 256 = omega arith in
    let whole : w * 256 + a ≡ a + 256 * w = omega arith in
    ap (λ l. bit_xor l (w * 256)) (sym left) ∙ ap (bit_xor (0 * 256 + a)) (sym right) ∙ block
    ∙ ap (λ h. h * 256 + bit_xor a 0) (xor_zero_l w) ∙ ap (λ l. w * 256 + l) (xor_zero_r a) ∙ whole

-- the first byte of a word goes through the check alone
first_byte : (crc a w : ℕ) → a < 256 → eight_bits (bit_xor crc (a + 256 * w)) ≡ bit_xor (crc_byte crc a) w
unfolding crc_byte
first_byte crc a w h =
    ap (λ x. eight_bits (bit_xor crc x)) (sym (byte_below a w h)) ∙ ap eight_bits (sym (xor_assoc crc a (w * 256)))
    ∙ eight_bits-above (bit_xor crc a) w

pub fold_four : (crc a b c d : ℕ) → a < 256 → b < 256 → c < 256 → d < 256 →
    eight_bits (eight_bits (eight_bits (eight_bits (bit_xor crc (word a b c d))))) ≡ fold crc_byte crc (a ∷ b ∷ c ∷ d ∷ [])
fold_four crc a b c d ha hb hc hd =
    ap (λ x. eight_bits (eight_bits (eight_bits x))) (first_byte crc a (b + 256 * (c + 256 * (d + 256 * 0))) ha)
    ∙ ap (λ x. eight_bits (eight_bits x)) (first_byte (crc_byte crc a) b (c + 256 * (d + 256 * 0)) hb)
    ∙ ap eight_bits (first_byte (crc_byte (crc_byte crc a) b) c (d + 256 * 0) hc)
    ∙ first_byte (crc_byte (crc_byte (crc_byte crc a) b) c) d 0 hd
    ∙ xor_zero_r (crc_byte (crc_byte (crc_byte (crc_byte crc a) b) c) d)

chained : (a b c d z y w : ℕ) → z ≡ bit_xor c d → y ≡ bit_xor b z → w ≡ bit_xor a y → bit_xor (bit_xor (bit_xor a b) c) d ≡ w
chained a b c d z y w last third second =
    xor_assoc (bit_xor a b) c d ∙ xor_assoc a b (bit_xor c d) ∙ ap (λ v. bit_xor a (bit_xor b v)) (sym last)
    ∙ ap (bit_xor a) (sym third) ∙ sym second

-- four look-ups, one for each byte of a word
pub four_rows : (x : ℕ) → bit_xor (bit_xor (bit_xor (eight_bits (eight_bits (eight_bits (eight_bits (x % 256))))) (eight_bits (eight_bits (eight_bits (x / 2 ^ 8 % 256))))) (eight_bits (eight_bits (x / 2 ^ 16 % 256)))) (eight_bits (x / 2 ^ 24))
    ≡ eight_bits (eight_bits (eight_bits (eight_bits x)))
four_rows x =
    let second : x / 256 / 256 ≡ x / 65536 = omega arith in
    let third : x / 65536 / 256 ≡ x / 16777216 = omega arith in
    let two = two_bytes-split (x / 65536) ∙ ap (λ y. bit_xor (eight_bits (eight_bits (x / 65536 % 256))) (eight_bits y)) third in
    let three = three_bytes-split (x / 256) ∙ ap (λ y. bit_xor (eight_bits (eight_bits (eight_bits (x / 256 % 256)))) (eight_bits (eight_bits y))) second in
    chained (eight_bits (eight_bits (eight_bits (eight_bits (x % 256))))) (eight_bits (eight_bits (eight_bits (x / 256 % 256)))) (eight_bits (eight_bits (x / 65536 % 256))) (eight_bits (x / 16777216))
    (eight_bits (eight_bits (x / 65536))) (eight_bits (eight_bits (eight_bits (x / 256)))) (eight_bits (eight_bits (eight_bits (eight_bits x)))) two three (four_bytes-split x)
