-- What a test of edits tells.
use Rattle.std.proofs.Common.{◌≡◌, ◌≤◌, ◌<◌, ◌+◌, ◌*◌, ◌/◌, ◌||◌, ℕ, Bool, true, false, cond, find, List, [], ◌∷◌, Some, None, inl, inr, arith}
use Rattle.std.specs.List.{list_any}
use Rattle.std.proofs.lemmas.Bool.{cases_lt}
use Rattle.std.proofs.lemmas.Nat.{div-add-mod', mul-le}
use Rattle.msf_blocks.specs.Blocks.{IsBlockSize, blocks_of_size}
use Rattle.msf_blocks.specs.Edit.{StreamEdit}
use Rattle.stream_directory.specs.Directory.{StreamBlocks}
use Rattle.cow_streams.specs.Edits.{IsCovered, has_byte, len_after}
use Rattle.cow_streams.proofs.Contents.{below_count}

none_any : (p : StreamEdit → Bool) (xs : List StreamEdit) → find p xs ≡ None → list_any p xs ≡ true → ⊥
none_any p [] none is = cc
none_any p (x ∷ xs) none is = step (p x) none is (λ n i. none_any p xs n i)
  where
    step : (t : Bool) → cond t (Some x) (find p xs) ≡ None → (t || list_any p xs) ≡ true → (find p xs ≡ None → list_any p xs ≡ true → ⊥) → ⊥
    step true none is more = cc
    step false none is more = more none is

pub covered_by : (size : ℕ) (edits : List StreamEdit) (i : ℕ) (stream : StreamBlocks) (len first end : ℕ) → IsBlockSize size → len ≡ len_after edits i stream.size → first ≡ stream.size / size → blocks_of_size size len ≤ end
    → ((j : ℕ) → first ≤ j → j < end → list_any (has_byte i (j * size)) edits ≡ true) → IsCovered size edits i (Some stream)
covered_by size edits i stream len first end h is begins ends each =
    λ k lt none.
    elim (cases_lt k first) [
      | inl before ↦
          let most = mul-le (k + 1) size (stream.size / size) size (omega (arith, before, begins)) (omega arith) in
          inr (omega (arith, most, div-add-mod' stream.size size))
      | inr behind ↦
          let there = below_count size len k h (omega (arith, lt, is)) in
          absurd (none_any (has_byte i (k * size)) edits none (each k behind (omega (arith, there, ends))))
    ]
