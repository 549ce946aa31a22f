-- A file that is first made long enough for a write, and then written.
use Rattle.std.proofs.Common.{◌≡◌, ◌≤◌, ◌+◌, ◌-◌, ◌++◌, ℕ, zero, suc, List, [], ◌∷◌, length, take, drop, replicate, sym, ◌∙◌, ap, ap₂, arith}
use Rattle.std.proofs.lemmas.List.{append-nil, length-replicate, take-replicate, drop-replicate}
use Rattle.srv_edge.specs.Disk.{splice, splice_with, with_head}

take-padded : (fill at n : ℕ) (file : List ℕ) → at ≤ length file + n → take at (file ++ replicate n fill) ≡ take at file ++ replicate (at - length file) fill
take-padded fill zero n file le =
    let none : zero - length file ≡ 0 = omega arith in
    sym (ap (λ k. replicate k fill) none)
take-padded fill (suc at) n [] le =
    let e : suc at - length {A = ℕ} [] ≡ suc at = omega arith in
    take-replicate {X = ℕ} (suc at) n fill (omega arith) ∙ sym (ap (λ k. replicate k fill) e)
take-padded fill (suc at) n (x ∷ xs) le =
    let e : at - length xs ≡ suc at - length (x ∷ xs) = omega arith in
    ap (λ ys. x ∷ ys) (take-padded fill at n xs (omega arith) ∙ ap (λ k. take at xs ++ replicate k fill) e)

drop-padded : (fill end : ℕ) (file : List ℕ) → drop end (file ++ replicate (end - length file) fill) ≡ drop end file
drop-padded fill zero file =
    let none : zero - length file ≡ 0 = omega arith in
    ap (λ k. file ++ replicate k fill) none ∙ append-nil file
drop-padded fill (suc end) [] =
    let e : suc end - length {A = ℕ} [] ≡ suc end = omega arith in
    let none : suc end - suc end ≡ 0 = omega arith in
    ap (λ k. drop (suc end) (replicate k fill)) e ∙ drop-replicate {X = ℕ} (suc end) (suc end) fill ∙ ap (λ k. replicate k fill) none
drop-padded fill (suc end) (x ∷ xs) =
    let e : suc end - length (x ∷ xs) ≡ end - length xs = omega arith in
    ap (λ k. drop end (xs ++ replicate k fill)) e ∙ drop-padded fill end xs

-- the write then stands as in the file that was not made longer
splice-padded : (fill : ℕ) (file : List ℕ) (at : ℕ) (bytes : List ℕ) → let padded = file ++ replicate (at + length bytes - length file) fill in take at padded ++ bytes ++ drop (at + length bytes) padded ≡ splice_with fill file at bytes
splice-padded fill file at bytes =
    let n = at + length bytes - length file in
    ap₂ (λ xs ys. xs ++ bytes ++ ys) (take-padded fill at n file (omega arith)) (drop-padded fill (at + length bytes) file)

-- a write at the head's place is a head
pub with_head-splice : (file head : List ℕ) → splice file 0 head ≡ with_head file head
with_head-splice file head =
    let none : 0 - length file ≡ 0 = omega arith in
    let n : 0 + length head ≡ length head = omega arith in
    ap (λ k. take 0 file ++ replicate k 0 ++ head ++ drop (0 + length head) file) none ∙ ap (λ k. head ++ drop k file) n

-- the same for a file that was made longer and then written
pub written : (fill : ℕ) (file longer final : List ℕ) (at : ℕ) (bytes : List ℕ) → longer ≡ file ++ replicate (at + length bytes - length file) fill → final ≡ take at longer ++ bytes ++ drop (at + length bytes) longer → final ≡ splice_with fill file at bytes
written fill file longer final at bytes is was =
    was ∙ ap (λ xs. take at xs ++ bytes ++ drop (at + length bytes) xs) is ∙ splice-padded fill file at bytes

-- and for one that was filled with one byte
pub filled : (file longer final : List ℕ) (at n fill : ℕ) → longer ≡ file ++ replicate (at + n - length file) fill → final ≡ take at longer ++ replicate n fill ++ drop (at + n) longer → final ≡ splice_with fill file at (replicate n fill)
filled file longer final at n fill is was =
    let many = sym (length-replicate {A = ℕ} n fill) in
    written fill file longer final at (replicate n fill) (is ∙ ap (λ m. file ++ replicate (at + m - length file) fill) many)
    (was ∙ ap (λ m. take at longer ++ replicate n fill ++ drop (at + m) longer) many)
