-- Numbers as four bytes and as two.
use Rattle.std.proofs.Common.{◌≡◌, ◌≤◌, ◌<◌, ◌^◌, ℕ, zero, suc, List, [], ◌∷◌, ◌++◌, length, get_or, take, drop, refl, sym, ap, ◌∙◌, lit<, arith}
use Rattle.std.proofs.lemmas.List.{append-nil, take-append-drop, get_or-take, length-take-le, drop_at}
use Rattle.std.proofs.lemmas.Nat.{le_bytes_2, le_bytes_4}
use Rattle.byteorder.specs.Endian.{little_number, little_bytes}
use Rattle.byteorder.specs.Numbers.{little_number-reads_back}
use Rattle.srv_edge.specs.Frames.{word_bytes, half_bytes}

pub length-word_bytes : (n : ℕ) → length (word_bytes n) ≡ 4
unfolding word_bytes
length-word_bytes n = refl

pub length-half_bytes : (n : ℕ) → length (half_bytes n) ≡ 2
unfolding half_bytes
length-half_bytes n = refl

-- the front of a list of bytes is one
small_front : (n : ℕ) (xs : List ℕ) → ((i : ℕ) → get_or xs i 0 < 256) → (i : ℕ) → get_or (take n xs) i 0 < 256
small_front zero xs small i = lit< tt
small_front (suc n) [] small i = lit< tt
small_front (suc n) (x ∷ xs) small zero = small 0
small_front (suc n) (x ∷ xs) small (suc i) = small_front n xs (λ k. small (suc k)) i

-- four bytes are those of the number in them
pub word_bytes-read : (xs : List ℕ) → 4 ≤ length xs → ((i : ℕ) → get_or xs i 0 < 256) → word_bytes (little_number 4 xs) ++ drop 4 xs ≡ xs
unfolding word_bytes
word_bytes-read xs le small =
    let front : little_bytes 4 (little_number 4 xs) ≡ take 4 xs =
    le_bytes_4 (take 4 xs) (little_number 4 xs) (length-take-le 4 xs le) (small_front 4 xs small)
    (omega (arith, get_or-take 4 xs 0 0 (lit< tt), get_or-take 4 xs 1 0 (lit< tt), get_or-take 4 xs 2 0 (lit< tt), get_or-take 4 xs 3 0 (lit< tt))) in
    ap (λ ys. ys ++ drop 4 xs) front ∙ take-append-drop 4 xs

pub half_bytes-read : (xs : List ℕ) → 2 ≤ length xs → ((i : ℕ) → get_or xs i 0 < 256) → half_bytes (little_number 2 xs) ++ drop 2 xs ≡ xs
unfolding half_bytes
half_bytes-read xs le small =
    let front : little_bytes 2 (little_number 2 xs) ≡ take 2 xs =
    le_bytes_2 (take 2 xs) (little_number 2 xs) (length-take-le 2 xs le) (small_front 2 xs small)
    (omega (arith, get_or-take 2 xs 0 0 (lit< tt), get_or-take 2 xs 1 0 (lit< tt))) in
    ap (λ ys. ys ++ drop 2 xs) front ∙ take-append-drop 2 xs

-- the number in the bytes of a number, whatever follows
pub little_number-word : (n : ℕ) (rest : List ℕ) → n < 2 ^ 32 → little_number 4 (word_bytes n ++ rest) ≡ n
unfolding word_bytes
little_number-word n rest lt = little_number-reads_back 4 n rest lt

pub little_number-half : (n : ℕ) (rest : List ℕ) → n < 2 ^ 16 → little_number 2 (half_bytes n ++ rest) ≡ n
unfolding half_bytes
little_number-half n rest lt = little_number-reads_back 2 n rest lt

-- what begins with the bytes of two numbers begins with one number
pub record SameWord (m n : ℕ) (xs ys : List ℕ) : Type 0 where
  pub number : m ≡ n
  pub rest : xs ≡ ys

pub same_word : (m n : ℕ) (xs ys : List ℕ) → m < 2 ^ 32 → n < 2 ^ 32 → word_bytes m ++ xs ≡ word_bytes n ++ ys → SameWord m n xs ys
same_word m n xs ys lm ln e =
    record {
      number = sym (little_number-word m xs lm) ∙ ap (little_number 4) e ∙ little_number-word n ys ln;
      rest = sym (drop_at (word_bytes m) xs 4 (length-word_bytes m)) ∙ ap (drop 4) e ∙ drop_at (word_bytes n) ys 4 (length-word_bytes n);
    }

-- the bytes of two numbers are those of one
pub same_half : (m n : ℕ) (rest : List ℕ) → m < 2 ^ 16 → n < 2 ^ 16 → half_bytes m ≡ half_bytes n ++ rest → m ≡ n
same_half m n rest lm ln e =
    sym (little_number-half m [] lm) ∙ ap (little_number 2) (append-nil (half_bytes m) ∙ e) ∙ little_number-half n rest ln
