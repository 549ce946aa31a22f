-- What a write that is done, and one that is not begun, leave is among what a torn one may leave.
use Rattle.std.proofs.Common.{◌≡◌, ◌≤◌, ◌<◌, ◌+◌, ◌-◌, ◌++◌, ℕ, List, length, take, drop, replicate, get_or, refl, ◌∙◌, ap, max, arith}
use Rattle.std.proofs.lemmas.List.{length-take, length-replicate, length-append, length-drop, get_or_append_left, get_or-append_right, get_or-take, get_or-drop}
use Rattle.srv_edge.specs.Disk.{splice_with, Torn}

-- what stands in front of the bytes of a write
pub length-front : (fill : ℕ) (file : List ℕ) (at : ℕ) → length (take at file ++ replicate (at - length file) fill) ≡ at
length-front fill file at =
    let gap : List ℕ = replicate (at - length file) fill in
    omega (arith, length-append (take at file) gap, length-take at file, length-replicate {A = ℕ} (at - length file) fill)

length-splice : (fill : ℕ) (file : List ℕ) (at : ℕ) (bytes : List ℕ) → length (splice_with fill file at bytes) ≡ max (length file) (at + length bytes)
length-splice fill file at bytes =
    let front : List ℕ = take at file ++ replicate (at - length file) fill in
    let rest = drop (at + length bytes) file in
    omega (arith, length-front fill file at, length-append front bytes, length-append (front ++ bytes) rest, length-drop (at + length bytes) file)

-- the bytes before a write
before-splice : (fill : ℕ) (file : List ℕ) (at : ℕ) (bytes : List ℕ) (i : ℕ) → i < length file → i < at → get_or (splice_with fill file at bytes) i 0 ≡ get_or file i 0
before-splice fill file at bytes i in_file lt =
    let gap : List ℕ = replicate (at - length file) fill in
    let front : List ℕ = take at file ++ gap in
    let rest = drop (at + length bytes) file in
    get_or_append_left (front ++ bytes) rest 0 i (omega (arith, length-front fill file at, length-append front bytes))
    ∙ get_or_append_left front bytes 0 i (omega (arith, length-front fill file at))
    ∙ get_or_append_left (take at file) gap 0 i (omega (arith, length-take at file)) ∙ get_or-take at file i 0 lt

-- the bytes behind it
behind-splice : (fill : ℕ) (file : List ℕ) (at : ℕ) (bytes : List ℕ) (i : ℕ) → i < length file → at + length bytes ≤ i → get_or (splice_with fill file at bytes) i 0 ≡ get_or file i 0
behind-splice fill file at bytes i in_file le =
    let front : List ℕ = take at file ++ replicate (at - length file) fill in
    let end = at + length bytes in
    let is : length (front ++ bytes) ≡ end = omega (arith, length-front fill file at, length-append front bytes) in
    let e : end + (i - end) ≡ i = omega arith in
    get_or-append_right (front ++ bytes) (drop end file) end i 0 is le ∙ get_or-drop end file (i - end) 0 ∙ ap (λ k. get_or file k 0) e

-- a write that is done, whatever stands between the old end and its place
pub torn-splice : (fill : ℕ) (file : List ℕ) (at : ℕ) (bytes : List ℕ) → Torn at (length bytes) file (splice_with fill file at bytes)
torn-splice fill file at bytes =
    record {
      no_shorter = omega (arith, length-splice fill file at bytes);
      before = λ i in_file lt. before-splice fill file at bytes i in_file lt;
      behind = λ i in_file le. behind-splice fill file at bytes i in_file le;
    }

-- one that is not begun
pub torn-same : (at n : ℕ) (file : List ℕ) → Torn at n file file
torn-same at n file = record { no_shorter = omega arith; before = λ i in_file lt. refl; behind = λ i in_file le. refl }
