-- Numbers of four bytes, the lowest byte first: what is read was written so, and what is written is read again.
use Rattle.std.proofs.Common.{◌≡◌, ◌≤◌, ◌<◌, ◌+◌, ◌^◌, ℕ, List, ◌++◌, length, get_or, take, drop, sym, ap, ◌∙◌, arith, inl, inr}
use Rattle.std.proofs.lemmas.Bool.{cases_lt}
use Rattle.std.proofs.lemmas.List.{get_or-drop, get_or-take, get_or_past, length-take, take-append-drop, take-take, drop-take}
use Rattle.std.proofs.lemmas.Nat.{le_bytes_4}
use Rattle.byteorder.specs.Endian.{little_bytes, little_number}

abbrev pub AreBytes : List ℕ → Type 0
AreBytes bytes = (i : ℕ) → get_or bytes i 0 < 256

pub AreBytes-drop : (n : ℕ) (bytes : List ℕ) → AreBytes bytes → AreBytes (drop n bytes)
AreBytes-drop n bytes h i = rw get_or-drop (h (n + i))

pub AreBytes-take : (n : ℕ) (bytes : List ℕ) → AreBytes bytes → AreBytes (take n bytes)
AreBytes-take n bytes h i =
    elim (cases_lt i n) [
      | inl lt ↦ rw (get_or-take n bytes i 0 lt) (h i)
      | inr le ↦ rw (get_or_past (take n bytes) i 0 (omega (arith, length-take n bytes))) (omega arith)
    ]

pub little_number-lt : (bytes : List ℕ) → AreBytes bytes → little_number 4 bytes < 2 ^ 32
little_number-lt bytes h = omega (arith, h 0, h 1, h 2, h 3)

-- the four bytes of the number that was read
pub little_bytes-little_number : (bytes : List ℕ) → AreBytes bytes → 4 ≤ length bytes → little_bytes 4 (little_number 4 bytes) ≡ take 4 bytes
little_bytes-little_number bytes h long =
    let e0 = get_or-take 4 bytes 0 0 (omega arith) in
    let e1 = get_or-take 4 bytes 1 0 (omega arith) in
    let e2 = get_or-take 4 bytes 2 0 (omega arith) in
    let e3 = get_or-take 4 bytes 3 0 (omega arith) in
    let short : length (take 4 bytes) ≡ 4 = omega (arith, length-take 4 bytes) in
    let all_below : AreBytes (take 4 bytes) = AreBytes-take 4 bytes h in
    le_bytes_4 (take 4 bytes) (little_number 4 bytes) short all_below (omega (arith, e0, e1, e2, e3))

-- the number of the four bytes that were written
pub little_number-little_bytes : (n : ℕ) (rest : List ℕ) → n < 2 ^ 32 → little_number 4 (little_bytes 4 n ++ rest) ≡ n
little_number-little_bytes n rest lt = omega arith

-- n more bytes from the front
pub take_further : (at n : ℕ) (bytes : List ℕ) → take (at + n) bytes ≡ take at bytes ++ take n (drop at bytes)
take_further at n bytes =
    sym (take-append-drop at (take (at + n) bytes)) ∙ ap (λ xs. xs ++ drop at (take (at + n) bytes)) (take-take at (at + n) bytes (omega arith))
    ∙ ap (λ xs. take at bytes ++ xs) (drop-take at n bytes)
