-- Words and pairs, one at a time.
use Rattle.std.proofs.Common.{◌≡◌, ◌≤◌, ◌<◌, ◌+◌, ◌*◌, ◌-◌, ℕ, List, [], ◌∷◌, length, drop, count_ones, refl, ap, ◌∙◌, arith, sum_by}
use Rattle.std.proofs.lemmas.List.{drop-drop, length-drop}
use Rattle.std.proofs.lemmas.List.Sums.{sum_by-cons}
use Rattle.byteorder.specs.Endian.{little_number}
use Rattle.info_stream.specs.Named.{pairs_of}
use Rattle.info_stream.specs.Words.{words_in}

pub words_in-cons : (bytes : List ℕ) → 4 ≤ length bytes → words_in bytes ≡ little_number 4 bytes ∷ words_in (drop 4 bytes)
words_in-cons [] le = absurd (omega (arith, le))
words_in-cons (a ∷ []) le = absurd (omega (arith, le))
words_in-cons (a ∷ b ∷ []) le = absurd (omega (arith, le))
words_in-cons (a ∷ b ∷ c ∷ []) le = absurd (omega (arith, le))
words_in-cons (a ∷ b ∷ c ∷ d ∷ bytes) le = refl

pub words_in-short : (bytes : List ℕ) → length bytes < 4 → words_in bytes ≡ []
words_in-short [] lt = refl
words_in-short (a ∷ []) lt = refl
words_in-short (a ∷ b ∷ []) lt = refl
words_in-short (a ∷ b ∷ c ∷ []) lt = refl
words_in-short (a ∷ b ∷ c ∷ d ∷ bytes) lt = absurd (omega (arith, lt))

-- the words from word i on
pub words_at : (bytes : List ℕ) (i : ℕ) → 4 * i + 4 ≤ length bytes → words_in (drop (4 * i) bytes) ≡ little_number 4 (drop (4 * i) bytes) ∷ words_in (drop (4 * (i + 1)) bytes)
words_at bytes i le =
    let next : 4 * i + 4 ≡ 4 * (i + 1) = omega arith in
    words_in-cons (drop (4 * i) bytes) (omega (arith, le, length-drop (4 * i) bytes))
    ∙ ap (λ xs. little_number 4 (drop (4 * i) bytes) ∷ words_in xs) (drop-drop 4 (4 * i) bytes ∙ ap (λ n. drop n bytes) next)

-- the bits of the words from word i on
pub ones_at : (bytes : List ℕ) (i : ℕ) → 4 * i + 4 ≤ length bytes
    → sum_by count_ones (words_in (drop (4 * i) bytes)) ≡ count_ones (little_number 4 (drop (4 * i) bytes)) + sum_by count_ones (words_in (drop (4 * (i + 1)) bytes))
ones_at bytes i le = ap (sum_by count_ones) (words_at bytes i le) ∙ sum_by-cons count_ones (little_number 4 (drop (4 * i) bytes)) (words_in (drop (4 * (i + 1)) bytes))

-- the pairs from pair i on
pub pairs_at : (bytes : List ℕ) (i : ℕ) → 8 * i + 8 ≤ length bytes
    → pairs_of (words_in (drop (8 * i) bytes)) ≡ (little_number 4 (drop (8 * i) bytes), little_number 4 (drop (8 * i + 4) bytes)) ∷ pairs_of (words_in (drop (8 * (i + 1)) bytes))
pairs_at bytes i le =
    let here = drop (8 * i) bytes in
    let len : length here ≡ length bytes - 8 * i = length-drop (8 * i) bytes in
    let first = words_in-cons here (omega (arith, le, len)) in
    let behind : drop 4 here ≡ drop (8 * i + 4) bytes = drop-drop 4 (8 * i) bytes in
    let second = words_in-cons (drop (8 * i + 4) bytes) (omega (arith, le, length-drop (8 * i + 4) bytes)) in
    let next : 8 * i + 4 + 4 ≡ 8 * (i + 1) = omega arith in
    let rest : drop 4 (drop (8 * i + 4) bytes) ≡ drop (8 * (i + 1)) bytes = drop-drop 4 (8 * i + 4) bytes ∙ ap (λ n. drop n bytes) next in
    ap pairs_of (first ∙ ap (λ xs. little_number 4 here ∷ words_in xs) behind ∙ ap (λ xs. little_number 4 here ∷ xs) (second ∙ ap (λ xs. little_number 4 (drop (8 * i + 4) bytes) ∷ words_in xs) rest))

pub pairs_in-short : (bytes : List ℕ) → length bytes < 8 → pairs_of (words_in bytes) ≡ []
pairs_in-short [] lt = refl
pairs_in-short (a ∷ []) lt = refl
pairs_in-short (a ∷ b ∷ []) lt = refl
pairs_in-short (a ∷ b ∷ c ∷ []) lt = refl
pairs_in-short (a ∷ b ∷ c ∷ d ∷ []) lt = refl
pairs_in-short (a ∷ b ∷ c ∷ d ∷ e ∷ []) lt = refl
pairs_in-short (a ∷ b ∷ c ∷ d ∷ e ∷ f ∷ []) lt = refl
pairs_in-short (a ∷ b ∷ c ∷ d ∷ e ∷ f ∷ g ∷ []) lt = refl
pairs_in-short (a ∷ b ∷ c ∷ d ∷ e ∷ f ∷ g ∷ h ∷ bytes) lt = absurd (omega (arith, lt))
