-- A block that is cut from the bytes of an edit.
use Rattle.std.proofs.Common.{◌≡◌, ◌≤◌, ◌+◌, ◌-◌, ◌*◌, ◌++◌, ℕ, List, length, take, drop, replicate, min, ap, ◌∙◌, arith}
use Rattle.std.proofs.lemmas.List.{length-drop, length-take, take_all}
use Rattle.msf_image.specs.Packed.{block_of}
use Rattle.msf_image.proofs.PackedLoops.{part_is}

-- a part of the bytes, filled up with zeros, is a block of them
pub piece_is : (size k from end had : ℕ) (bytes part filled : List ℕ) → from ≡ min (length bytes) (k * size) → end ≡ min (length bytes) (from + size)
    → part ≡ take (end - from) (drop from bytes) → had ≡ length part → filled ≡ take size part ++ replicate (size - had) 0
    → filled ≡ block_of size bytes k
unfolding block_of
piece_is size k from end had bytes part filled is_from is_end is_part is_had is_filled =
    let len : length part ≡ end - from = ap length is_part ∙ length-take (end - from) (drop from bytes) ∙ omega (arith, is_from, is_end, length-drop from bytes) in
    let few : length part ≤ size = omega (arith, len, is_end) in
    let rest : size - had ≡ size - (end - from) = omega (arith, is_had, len) in
    is_filled ∙ (λ i. take_all size part few i ++ replicate (rest i) 0) ∙ ap (λ xs. xs ++ replicate (size - (end - from)) 0) is_part
    ∙ part_is size (k * size) from end bytes is_from is_end
