-- Ranges of a file that a write and a head keep, and those that they put in place.
use Rattle.std.proofs.Common.{◌≡◌, ◌≤◌, ◌<◌, ◌+◌, ◌-◌, ◌++◌, ◌⊎◌, inl, inr, ℕ, List, length, take, drop, replicate, get_or, refl, sym, ◌∙◌, ap, max, arith}
use Rattle.std.proofs.lemmas.List.{length-take, length-drop, length-append, append_assoc, take_at, drop_at, drop-drop, get_or-take, get_or-drop, ext_get_or}
use Rattle.srv_edge.specs.Disk.{splice, with_head, Torn}
use Rattle.srv_edge.specs.Torn.{length-front, torn-splice}

-- two files with the same bytes in a range
pub same_range : (a k : ℕ) (xs ys : List ℕ) → a + k ≤ length xs → a + k ≤ length ys → ((i : ℕ) → a ≤ i → i < a + k → get_or xs i 0 ≡ get_or ys i 0) → take k (drop a xs) ≡ take k (drop a ys)
same_range a k xs ys in_xs in_ys same =
    let nx : length (take k (drop a xs)) ≡ k = omega (arith, length-take k (drop a xs), length-drop a xs) in
    let ny : length (take k (drop a ys)) ≡ k = omega (arith, length-take k (drop a ys), length-drop a ys) in
    ext_get_or 0 (take k (drop a xs)) (take k (drop a ys)) (nx ∙ sym ny)
    (λ i lt.
    let low : i < k = omega arith in
    get_or-take k (drop a xs) i 0 low ∙ get_or-drop a xs i 0 ∙ same (a + i) (omega arith) (omega arith)
    ∙ sym (get_or-take k (drop a ys) i 0 low ∙ get_or-drop a ys i 0))

-- a torn write keeps each range apart from its own
pub torn_keeps : (at n a k : ℕ) (old new : List ℕ) → Torn at n old new → a + k ≤ length old → (a + k ≤ at) ⊎ (at + n ≤ a) → take k (drop a new) ≡ take k (drop a old)
torn_keeps at n a k old new torn fits (inl below) =
    same_range a k new old (omega (arith, torn.no_shorter)) fits (λ i le lt. torn.before i (omega arith) (omega arith))
torn_keeps at n a k old new torn fits (inr above) =
    same_range a k new old (omega (arith, torn.no_shorter)) fits (λ i le lt. torn.behind i (omega arith) (omega arith))

-- a write that is done keeps each range apart from its own
pub spliced_keeps : (at a k : ℕ) (file bytes : List ℕ) → a + k ≤ length file → (a + k ≤ at) ⊎ (at + length bytes ≤ a) → take k (drop a (splice file at bytes)) ≡ take k (drop a file)
spliced_keeps at a k file bytes fits apart =
    torn_keeps at (length bytes) a k file (splice file at bytes) (torn-splice 0 file at bytes) fits apart

-- the bytes of a write stand in their range
pub spliced_holds : (file : List ℕ) (at : ℕ) (bytes : List ℕ) → take (length bytes) (drop at (splice file at bytes)) ≡ bytes
spliced_holds file at bytes =
    let front : List ℕ = take at file ++ replicate (at - length file) 0 in
    let rest = drop (at + length bytes) file in
    let split : front ++ bytes ++ rest ≡ front ++ (bytes ++ rest) = simp append_assoc in
    ap (λ xs. take (length bytes) (drop at xs)) split ∙ ap (take (length bytes)) (drop_at front (bytes ++ rest) at (length-front 0 file at))
    ∙ take_at bytes rest (length bytes) refl

-- a head keeps what is behind it
pub headed_keeps : (head file : List ℕ) (a : ℕ) → length head ≤ a → drop a (with_head file head) ≡ drop a file
headed_keeps head file a le =
    let rest = drop (length head) file in
    let r = a - length head in
    let e : length head + r ≡ a = omega arith in
    ap (λ m. drop m (head ++ rest)) (sym e) ∙ sym (drop-drop r (length head) (head ++ rest)) ∙ ap (drop r) (drop_at head rest (length head) refl)
    ∙ drop-drop r (length head) file ∙ ap (λ m. drop m file) e

-- a head stands in front
pub headed_holds : (head file : List ℕ) → take (length head) (with_head file head) ≡ head
headed_holds head file = take_at head (drop (length head) file) (length head) refl

pub length-with_head : (head file : List ℕ) → length (with_head file head) ≡ max (length head) (length file)
length-with_head head file = omega (arith, length-append head (drop (length head) file), length-drop (length head) file)

-- a head that is there already
pub headed_again : (head file : List ℕ) → with_head (with_head file head) head ≡ with_head file head
headed_again head file = ap (λ xs. head ++ xs) (drop_at head (drop (length head) file) (length head) refl)
