-- The fields of a text, read as words.
use Rattle.std.proofs.Common.{◌≡◌, ◌≤◌, ◌<◌, ◌+◌, ◌*◌, ℕ, zero, suc, List, [], ◌∷◌, ◌++◌, Ok, Err, length, take, drop, refl, sym, ap, ◌∙◌, arith}
use Rattle.std.proofs.lemmas.List.{append_assoc, drop-drop, length-drop}
use Rattle.msf_blocks.specs.Judging.{◌>>=◌}
use Rattle.byteorder.specs.Endian.{little_number}
use Rattle.stream_directory.specs.declared.fault.DirDamage.TheVariants.{Short}
use Rattle.stream_directory.specs.Reading.{fields_at, words_in}

pub fields_at-fits : (at n : ℕ) (words : List ℕ) → n ≤ length words → fields_at at n words ≡ Ok (take n words, drop n words)
unfolding fields_at
fields_at-fits at zero words le = refl
fields_at-fits at (suc n) [] le = absurd (omega (arith, le))
fields_at-fits at (suc n) (word ∷ words) le = ap (λ r. r >>= λ others. Ok (word ∷ others.0, others.1)) (fields_at-fits (at + 4) n words (omega (arith, le)))

pub fields_at-short : (at n : ℕ) (words : List ℕ) → length words < n → fields_at at n words ≡ Err (Short (at + 4 * length words))
unfolding fields_at
fields_at-short at zero words lt = absurd (omega (arith, lt))
fields_at-short at (suc n) [] lt = ap (λ k. Err (Short k)) (omega arith)
fields_at-short at (suc n) (word ∷ words) lt =
    ap (λ r. r >>= λ others. Ok (word ∷ others.0, others.1)) (fields_at-short (at + 4) n words (omega (arith, lt))) ∙ ap (λ k. Err (Short k)) (omega arith)

-- the words, from the front
words_in-cons : (bytes : List ℕ) → 4 ≤ length bytes → words_in bytes ≡ little_number 4 bytes ∷ words_in (drop 4 bytes)
unfolding words_in
words_in-cons [] le = absurd (omega (arith, le))
words_in-cons (a ∷ []) le = absurd (omega (arith, le))
words_in-cons (a ∷ b ∷ []) le = absurd (omega (arith, le))
words_in-cons (a ∷ b ∷ c ∷ []) le = absurd (omega (arith, le))
words_in-cons (a ∷ b ∷ c ∷ d ∷ bytes) le = refl

pub words_in-short : (bytes : List ℕ) → length bytes < 4 → words_in bytes ≡ []
unfolding words_in
words_in-short [] lt = refl
words_in-short (a ∷ []) lt = refl
words_in-short (a ∷ b ∷ []) lt = refl
words_in-short (a ∷ b ∷ c ∷ []) lt = refl
words_in-short (a ∷ b ∷ c ∷ d ∷ bytes) lt = absurd (omega (arith, lt))

-- one word more in front of those that are left
pub words_in-more : (bytes words more : List ℕ) (i word : ℕ) → 4 * i + 4 ≤ length bytes → words_in bytes ≡ words ++ words_in (drop (4 * i) bytes) → word ≡ little_number 4 (drop (4 * i) bytes)
    → more ≡ words ++ word ∷ [] → words_in bytes ≡ more ++ words_in (drop (4 * (i + 1)) bytes)
words_in-more bytes words more i word le so_far is pushed =
    let next : 4 * i + 4 ≡ 4 * (i + 1) = omega arith in
    let rest : words_in (drop (4 * i) bytes) ≡ word ∷ words_in (drop (4 * (i + 1)) bytes) =
    words_in-cons (drop (4 * i) bytes) (omega (arith, le, length-drop (4 * i) bytes))
    ∙ ap (λ n. n ∷ words_in (drop 4 (drop (4 * i) bytes))) (sym is) ∙ ap (λ xs. word ∷ words_in xs) (drop-drop 4 (4 * i) bytes ∙ ap (λ n. drop n bytes) next) in
    so_far ∙ ap (λ xs. words ++ xs) rest ∙ sym (append_assoc words (word ∷ []) (words_in (drop (4 * (i + 1)) bytes))) ∙ ap (λ xs. xs ++ words_in (drop (4 * (i + 1)) bytes)) (sym pushed)
