-- The bytes of blocks, one block after another.
use Rattle.std.proofs.Common.{◌≡◌, ◌≤◌, ◌<◌, ◌+◌, ◌*◌, ◌++◌, ℕ, List, [], length, take, get_or, All, sym, ap, ◌∙◌, subst, arith}
use Rattle.std.proofs.lemmas.List.{flat_map_more, take_more}
use Rattle.std.proofs.lemmas.List.Concat.{get_or-flat_map}
use Rattle.std.proofs.lemmas.List.Folds.{length-flat_map-take}
use Rattle.std.proofs.lemmas.Nat.{mul-le}
use Rattle.std.proofs.Math.Nat.{suc-mul}
use Rattle.std.specs.List.{flat_map}
use Rattle.msf_image.specs.Reads.{block_bytes, bytes_of_blocks}

-- one block more
pub blocks_more : (block_size : ℕ) (file now : List ℕ) (blocks : List ℕ) (i : ℕ) (old new : List ℕ) → i < length blocks → old ≡ bytes_of_blocks block_size file (take i blocks) → now ≡ file
    → new ≡ old ++ block_bytes block_size now (get_or blocks i 0) → new ≡ bytes_of_blocks block_size file (take (i + 1) blocks)
blocks_more block_size file now blocks i old new inside is same grown =
    grown ∙ ap (λ f. old ++ block_bytes block_size f (get_or blocks i 0)) same ∙ ap (λ bytes. bytes ++ block_bytes block_size file (get_or blocks i 0)) is
    ∙ flat_map_more (block_bytes block_size file) [] (take i blocks) (get_or blocks i 0) ∙ ap (flat_map (block_bytes block_size file)) (sym (take_more blocks i 0 inside))

-- what holds of all of many pieces holds of all of each
pub inside_piece : {A : Type 0} (f : A → List ℕ) (xs : List A) (i : ℕ) (x : A) (P : ℕ → Type 0) → i < length xs → x ≡ get_or xs i x → All P (flat_map f xs) → All P (f x)
inside_piece f xs i x P inside at all k d lt =
    let same : f (get_or xs i x) ≡ f x = ap f (sym at) in
    let there : k < length (f (get_or xs i x)) = omega (arith, lt, ap length same) in
    let found = get_or-flat_map f xs i k x d inside there in
    subst P (found ∙ ap (λ ys. get_or ys k d) same) (all (length (flat_map f (take i xs)) + k) d (omega (arith, there, length-flat_map-take f xs i x inside)))

-- a block of the file lies in its bytes
pub block_inside : (b blocks size bytes : ℕ) → b < blocks → blocks * size ≤ bytes → b * size + size ≤ bytes
block_inside b blocks size bytes lt whole = omega (arith, whole, mul-le (b + 1) size blocks size (omega (arith, lt)) (omega arith), suc-mul b size)
