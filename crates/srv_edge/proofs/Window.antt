-- A part of bytes that lies from one place to another.
use Rattle.std.proofs.Common.{◌≡◌, ◌≤◌, ◌+◌, ◌-◌, ◌++◌, ℕ, List, length, take, drop, sym, ap, ◌∙◌, arith, length-drop}
use Rattle.std.proofs.lemmas.List.{drop-drop, drop-take, length-take-le, take-append-drop, take-take}

-- how long it is
pub length-window : (from to : ℕ) (bytes : List ℕ) → to ≤ length bytes → length (drop from (take to bytes)) ≡ to - from
length-window from to bytes le = omega (arith, length-drop from (take to bytes), length-take-le to bytes le)

-- its front is that of the bytes from its place on
take-window : (from to n : ℕ) (bytes : List ℕ) → from + n ≤ to → take n (drop from (take to bytes)) ≡ take n (drop from bytes)
take-window from to n bytes le =
    let is : to ≡ from + (to - from) = omega (arith, le) in
    ap (λ m. take n (drop from (take m bytes))) is ∙ ap (take n) (drop-take from (to - from) bytes) ∙ take-take n (to - from) (drop from bytes) (omega (arith, le))

-- its front and what is behind that
pub cut-window : (from to n : ℕ) (bytes : List ℕ) → from + n ≤ to → take n (drop from bytes) ++ drop (from + n) (take to bytes) ≡ drop from (take to bytes)
cut-window from to n bytes le =
    let w = drop from (take to bytes) in
    ap (λ xs. xs ++ drop (from + n) (take to bytes)) (sym (take-window from to n bytes le)) ∙ ap (λ xs. take n w ++ xs) (sym (drop-drop n from (take to bytes))) ∙ take-append-drop n w
