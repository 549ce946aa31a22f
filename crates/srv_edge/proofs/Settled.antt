-- What the images of a file in memory keep of the file at the last good sync.
use Rattle.std.proofs.Common.{◌≡◌, ◌≤◌, ◌<◌, ◌+◌, ◌-◌, ◌⊎◌, inl, inr, ℕ, List, [], ◌∷◌, length, drop, get_or, refl, ◌∙◌, ap, arith}
use Rattle.std.proofs.lemmas.List.{get_or-append_right, get_or-drop}
use Rattle.srv_edge.specs.Disk.{with_head, Torn, Whole}
use Rattle.srv_edge.specs.Replay.{Step, torn, whole, IsImage, KeepsSettled}
use Rattle.srv_edge.proofs.Ranges.{length-with_head}

-- a byte behind a head
behind-with_head : (file head : List ℕ) (i : ℕ) → length head ≤ i → get_or (with_head file head) i 0 ≡ get_or file i 0
behind-with_head file head i le =
    let n = length head in
    let e : n + (i - n) ≡ i = omega arith in
    get_or-append_right head (drop n file) n i 0 refl le ∙ get_or-drop n file (i - n) 0 ∙ ap (λ k. get_or file k 0) e

-- a byte that a torn write spares
same_torn : (at n : ℕ) (d c : List ℕ) (i : ℕ) → Torn at n d c → i < length d → (i < at) ⊎ (at + n ≤ i) → get_or c i 0 ≡ get_or d i 0
same_torn at n d c i step lt (inl before) = step.before i lt before
same_torn at n d c i step lt (inr behind) = step.behind i lt behind

-- a byte that a head spares
same_whole : (head d c : List ℕ) (i : ℕ) → Whole head d c → length head ≤ i → get_or c i 0 ≡ get_or d i 0
same_whole head d c i (inl is) le = ap (λ file. get_or file i 0) is
same_whole head d c i (inr is) le = ap (λ file. get_or file i 0) is ∙ behind-with_head d head i le

longer_whole : (head d c : List ℕ) → Whole head d c → length d ≤ length c
longer_whole head d c (inl is) = omega (arith, ap length is)
longer_whole head d c (inr is) = omega (arith, ap length is, length-with_head head d)

pub keeps_settled : (settled : List ℕ) (steps : List Step) (c : List ℕ) → IsImage settled steps c → KeepsSettled settled steps c
keeps_settled settled [] c is = record { no_shorter = omega (arith, ap length is); same = λ i lt spared. ap (λ file. get_or file i 0) is }
keeps_settled settled (torn at n ∷ older) c image =
    let before = keeps_settled settled older image.0 image.1 in
    record {
      no_shorter = omega (arith, before.no_shorter, image.2.no_shorter);
      same = λ i lt spared. same_torn at n image.0 c i image.2 (omega (arith, before.no_shorter)) spared.0 ∙ before.same i lt spared.1;
    }
keeps_settled settled (whole head ∷ older) c image =
    let before = keeps_settled settled older image.0 image.1 in
    record {
      no_shorter = omega (arith, before.no_shorter, longer_whole head image.0 c image.2);
      same = λ i lt spared. same_whole head image.0 c i image.2 spared.0 ∙ before.same i lt spared.1;
    }
