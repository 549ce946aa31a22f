-- A slice or a buffer that is filled from its front.
use Rattle.std.proofs.Common.{◌≡◌, ◌≤◌, ◌+◌, ◌-◌, ℕ, List, ◌++◌, length, take, drop, refl, sym, ap, ◌∙◌, arith, append_assoc}
use Rattle.std.proofs.lemmas.List.{take-append-drop, drop-drop, take_at, length-take-le, take-take, take-append-le, drop_at, drop-take}

-- the bytes given so far, n more
pub take_further : (at n : ℕ) (bytes : List ℕ) → take (at + n) bytes ≡ take at bytes ++ take n (drop at bytes)
take_further at n bytes =
    sym (take-append-drop at (take (at + n) bytes)) ∙ ap (λ xs. xs ++ drop at (take (at + n) bytes)) (take-take at (at + n) bytes (omega arith))
    ∙ ap (λ xs. take at bytes ++ xs) (drop-take at n bytes)

-- the bytes left, n fewer
pub drop_further : (at n : ℕ) (bytes : List ℕ) → drop at bytes ≡ take n (drop at bytes) ++ drop (at + n) bytes
drop_further at n bytes = sym (take-append-drop n (drop at bytes)) ∙ ap (λ xs. take n (drop at bytes) ++ xs) (drop-drop n at bytes)

-- what stands in front, and a part of what stands behind it
pub take_behind : (xs ys : List ℕ) (len m : ℕ) → length xs ≡ len → take (len + m) (xs ++ ys) ≡ xs ++ take m ys
take_behind xs ys len m is =
    take_further len m (xs ++ ys) ∙ ap (λ zs. zs ++ take m (drop len (xs ++ ys))) (take_at xs ys len is)
    ∙ ap (λ zs. xs ++ take m zs) (drop_at xs ys len is)

-- a buffer of which n bytes more are taken into account, behind those that were
pub take_filled : (xs into post : List ℕ) (len n : ℕ) → length xs ≡ len → n ≤ length into → take (len + n) (xs ++ (into ++ post)) ≡ xs ++ take n into
take_filled xs into post len n is le = take_behind xs (into ++ post) len n is ∙ ap (λ zs. xs ++ zs) (take-append-le n into post le)

-- bytes written over others, within the part of a buffer that is taken into account
pub take_overwritten : (all bytes : List ℕ) (len at : ℕ) → at + length bytes ≤ len → len ≤ length all
    → take len (take at all ++ (bytes ++ drop (at + length bytes) all)) ≡ take at (take len all) ++ bytes ++ drop (at + length bytes) (take len all)
take_overwritten all bytes len at le fits =
    let D = drop (at + length bytes) all in
    let r = len - (at + length bytes) in
    let e : len ≡ at + (length bytes + r) = omega arith in
    let e' : len ≡ at + length bytes + r = omega arith in
    let short : length (take at all) ≡ at = length-take-le at all (omega arith) in
    let front : take at (take len all) ≡ take at all = take-take at len all (omega arith) in
    let back : drop (at + length bytes) (take len all) ≡ take r D = ap (λ m. drop (at + length bytes) (take m all)) e' ∙ drop-take (at + length bytes) r all in
    ap (λ m. take m (take at all ++ (bytes ++ D))) e ∙ take_behind (take at all) (bytes ++ D) at (length bytes + r) short
    ∙ ap (λ zs. take at all ++ zs) (take_behind bytes D (length bytes) r refl) ∙ sym (append_assoc (take at all) bytes (take r D))
    ∙ ap (λ zs. zs ++ bytes ++ take r D) (sym front) ∙ ap (λ zs. take at (take len all) ++ bytes ++ zs) (sym back)
