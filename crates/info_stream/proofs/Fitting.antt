-- Fields that fit, and the first that does not.
use Rattle.std.proofs.Common.{◌≡◌, ◌≤◌, ◌<◌, ◌*◌, ◌-◌, ◌%◌, ℕ, zero, suc, List, [], ◌∷◌, Ok, Err, Result, cond, length, take, drop, refl, sym, ap, ◌∙◌, arith, le-leb}
use Rattle.std.proofs.Math.Nat.{add-mod_right}
use Rattle.byteorder.specs.Endian.{little_number}
use Rattle.msf_blocks.specs.Judging.{◌>>=◌}
use Rattle.info_stream.specs.declared.fault.InfoFault.{InfoFault}
use Rattle.info_stream.specs.declared.fault.InfoFault.TheVariants.{Short}
use Rattle.info_stream.specs.Reading.{field, number, numbers}
use Rattle.info_stream.specs.Words.{words_in}

pub field_fits : (whole n : ℕ) (bytes : List ℕ) → n ≤ length bytes → field whole n bytes ≡ Ok (take n bytes, drop n bytes)
field_fits whole n bytes le = ap (λ b. cond b (Ok (take n bytes, drop n bytes)) (Err (Short (whole - length bytes)))) (le-leb n (length bytes) le)

pub number_fits : (whole : ℕ) (bytes : List ℕ) → 4 ≤ length bytes → number whole bytes ≡ Ok (little_number 4 (take 4 bytes), drop 4 bytes)
unfolding number
number_fits whole bytes le = ap (λ r. r >>= λ four. Ok (little_number 4 four.0, four.1)) (field_fits whole 4 bytes le)

number_cons : (whole a b c d : ℕ) (bytes : List ℕ) → number whole (a ∷ b ∷ c ∷ d ∷ bytes) ≡ Ok (little_number 4 (a ∷ b ∷ c ∷ d ∷ []), bytes)
number_cons whole a b c d bytes = number_fits whole (a ∷ b ∷ c ∷ d ∷ bytes) (omega arith)

number_short : (whole : ℕ) (bytes : List ℕ) → length bytes < 4 → number whole bytes ≡ Err (Short (whole - length bytes))
unfolding number
number_short whole [] lt = refl
number_short whole (a ∷ []) lt = refl
number_short whole (a ∷ b ∷ []) lt = refl
number_short whole (a ∷ b ∷ c ∷ []) lt = refl
number_short whole (a ∷ b ∷ c ∷ d ∷ bytes) lt = absurd (omega (arith, lt))

abbrev after_first : ℕ → ℕ → Result (ℕ × List ℕ) InfoFault → Result (List ℕ × List ℕ) InfoFault
after_first whole n r = r >>= λ first. numbers whole n first.1 >>= λ others. Ok (first.0 ∷ others.0, others.1)

pub numbers_fit : (whole n : ℕ) (bytes : List ℕ) → 4 * n ≤ length bytes → numbers whole n bytes ≡ Ok (words_in (take (4 * n) bytes), drop (4 * n) bytes)
unfolding numbers
numbers_fit whole zero bytes le = refl
numbers_fit whole (suc n) [] le = absurd (omega (arith, le))
numbers_fit whole (suc n) (a ∷ []) le = absurd (omega (arith, le))
numbers_fit whole (suc n) (a ∷ b ∷ []) le = absurd (omega (arith, le))
numbers_fit whole (suc n) (a ∷ b ∷ c ∷ []) le = absurd (omega (arith, le))
numbers_fit whole (suc n) (a ∷ b ∷ c ∷ d ∷ bytes) le =
    let more : 4 * suc n ≡ suc (suc (suc (suc (4 * n)))) = omega arith in
    let word = little_number 4 (a ∷ b ∷ c ∷ d ∷ []) in
    ap (after_first whole n) (number_cons whole a b c d bytes)
    ∙ ap (λ r. r >>= λ others. Ok (word ∷ others.0, others.1)) (numbers_fit whole n bytes (omega (arith, le)))
    ∙ ap (λ k. Ok (words_in (take k (a ∷ b ∷ c ∷ d ∷ bytes)), drop k (a ∷ b ∷ c ∷ d ∷ bytes))) (sym more)

pub numbers_short : (whole n : ℕ) (bytes : List ℕ) → length bytes < 4 * n → numbers whole n bytes ≡ Err (Short (whole - length bytes % 4))
unfolding numbers
numbers_short whole zero bytes lt = absurd (omega (arith, lt))
numbers_short whole (suc n) [] lt = ap (after_first whole n) (number_short whole [] (omega arith))
numbers_short whole (suc n) (a ∷ []) lt = ap (after_first whole n) (number_short whole (a ∷ []) (omega arith))
numbers_short whole (suc n) (a ∷ b ∷ []) lt = ap (after_first whole n) (number_short whole (a ∷ b ∷ []) (omega arith))
numbers_short whole (suc n) (a ∷ b ∷ c ∷ []) lt = ap (after_first whole n) (number_short whole (a ∷ b ∷ c ∷ []) (omega arith))
numbers_short whole (suc n) (a ∷ b ∷ c ∷ d ∷ bytes) lt =
    let word = little_number 4 (a ∷ b ∷ c ∷ d ∷ []) in
    let same : length bytes % 4 ≡ length (a ∷ b ∷ c ∷ d ∷ bytes) % 4 = sym (add-mod_right (length bytes) 4) ∙ ap (λ k. k % 4) (omega arith) in
    ap (after_first whole n) (number_cons whole a b c d bytes)
    ∙ ap (λ r. r >>= λ others. Ok (word ∷ others.0, others.1)) (numbers_short whole n bytes (omega (arith, lt)))
    ∙ ap (λ k. Err (Short (whole - k))) same
