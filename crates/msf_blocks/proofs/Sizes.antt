-- What each size of a block has.
use Rattle.std.proofs.Common.{◌≡◌, ◌≤◌, ◌<◌, ◌%◌, ◌^◌, ◌&&◌, ℕ, Bool, true, List, [], ◌∷◌, refl, ap, sym, ◌∙◌, arith, eqb, leb, inl, inr}
use Rattle.std.specs.List.{list_all, list_any}
use Rattle.std.proofs.lemmas.Bool.{or_cases, and_parts, eqb-true, leb-true}
use Rattle.std.proofs.lemmas.Nat.{mul-le}
use Rattle.msf_blocks.specs.declared.superblock.Super.{Super}
use Rattle.msf_blocks.specs.Blocks.{IsBlockSize, block_sizes}
use Rattle.msf_blocks.specs.Superblock.{IsSuper}

-- a size is one of the list
pub record IsSized (n : ℕ) : Type 0 where
  pub least : 512 ≤ n
  pub most : n ≤ 32768
  pub eighth : n % 8 ≡ 0

-- the same as a test, which each size of the list passes
abbrev is_sized : ℕ → Bool
is_sized n = leb 512 n && leb n 32768 && eqb (n % 8) 0

sized_from : (n : ℕ) → is_sized n ≡ true → IsSized n
sized_from n e =
    let a = and_parts (leb 512 n && leb n 32768) (eqb (n % 8) 0) e in
    let b = and_parts (leb 512 n) (leb n 32768) a.0 in
    record { least = leb-true 512 n b.0; most = leb-true n 32768 b.1; eighth = eqb-true (n % 8) 0 a.1 }

passes_too : (n : ℕ) (sizes : List ℕ) → list_all is_sized sizes ≡ true → list_any (λ size. eqb size n) sizes ≡ true → is_sized n ≡ true
passes_too n [] all one = absurd cc
passes_too n (size ∷ sizes) all one =
    let a = and_parts (is_sized size) (list_all is_sized sizes) all in
    elim (or_cases (eqb size n) (list_any (λ size. eqb size n) sizes) one) [
      | inl here ↦ ap is_sized (sym (eqb-true size n here)) ∙ a.0
      | inr later ↦ passes_too n sizes a.1 later
    ]

pub sized : (n : ℕ) → IsBlockSize n → IsSized n
sized n h = sized_from n (passes_too n block_sizes refl h)

pub IsBlockSize-le : (n : ℕ) → IsBlockSize n → n ≤ 32768
IsBlockSize-le n h = (sized n h).most

pub IsBlockSize-ge : (n : ℕ) → IsBlockSize n → 512 ≤ n
IsBlockSize-ge n h = (sized n h).least

pub IsSuper-dir_bytes-lt : (s : Super) → IsSuper s → s.dir_bytes < 2 ^ 32
IsSuper-dir_bytes-lt s is =
    let most = IsBlockSize-le s.block is.block in
    let square = mul-le s.block s.block 32768 32768 most most in
    omega (arith, square, is.most_dir_bytes)
