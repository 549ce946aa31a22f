-- Pieces of one length, joined: byte by byte, and cut again.
use Rattle.std.proofs.Common.{◌≡◌, ◌≤◌, ◌<◌, ◌+◌, ◌*◌, ◌/◌, ◌%◌, ◌++◌, ℕ, zero, suc, List, [], ◌∷◌, length, map, take, drop, replicate, get_or, refl, sym, ap, ◌∙◌, arith}
use Rattle.std.specs.List.{AllByRecursion, flat_map, range_with_len}
use Rattle.std.proofs.lemmas.List.{ext_get_or, get_or-append-add, get_or-drop, get_or-take, get_or_append_left, length-append, length-take-le}
use Rattle.std.proofs.lemmas.List.FromFn.{get_or-range_with_len, length-range_with_len}
use Rattle.std.proofs.lemmas.Nat.{div-add-mod', div_below, mod_below}
use Rattle.std.proofs.Math.Nat.{suc-mul}
use Rattle.msf_blocks.specs.Blocks.{IsBlockSize, blocks_of_size}
use Rattle.msf_blocks.proofs.Sizes.{sized}
use Rattle.msf_image.specs.Packed.{block_of}
use Rattle.msf_image.proofs.Laying.{length-block_of, whole_blocks}
use Rattle.msf_image.proofs.PackedLoops.{zeros_at}

pub joined_at : {X : Type 0} (f : X → List ℕ) (size : ℕ) (xs : List X) (k r : ℕ) (e : X) → AllByRecursion (λ x. length (f x) ≡ size) xs → k < length xs → r < size
    → get_or (flat_map f xs) (k * size + r) 0 ≡ get_or (f (get_or xs k e)) r 0
joined_at f size [] k r e len lt low = absurd (omega (arith, lt))
joined_at f size (x ∷ xs) zero r e len lt low =
    let same : 0 * size + r ≡ r = omega arith in
    ap (λ m. get_or (f x ++ flat_map f xs) m 0) same ∙ get_or_append_left (f x) (flat_map f xs) 0 r (omega (arith, low, len.0))
joined_at f size (x ∷ xs) (suc k) r e len lt low =
    let same : suc k * size + r ≡ length (f x) + (k * size + r) = omega (arith, suc-mul k size, len.0) in
    ap (λ m. get_or (f x ++ flat_map f xs) m 0) same ∙ get_or-append-add (f x) (flat_map f xs) (k * size + r) 0 ∙ joined_at f size xs k r e len.1 (omega (arith, lt)) low

pub length-joined : {X : Type 0} (f : X → List ℕ) (size : ℕ) (xs : List X) → AllByRecursion (λ x. length (f x) ≡ size) xs → length (flat_map f xs) ≡ length xs * size
length-joined f size [] len = omega arith
length-joined f size (x ∷ xs) len =
    omega (arith, length-append (f x) (flat_map f xs), len.0, length-joined f size xs len.1, suc-mul (length xs) size)

-- what holds of each place holds of each element that is made of it
pub each_place : {X : Type 0} (P : X → Type 0) (f : ℕ → X) (a n : ℕ) → ((k : ℕ) → a ≤ k → k < a + n → P (f k)) → AllByRecursion P (map f (range_with_len a n))
each_place P f a zero all = tt
each_place P f a (suc n) all = (all a (omega arith) (omega arith), each_place P f (a + 1) n (λ k from to. all k (omega (arith, from)) (omega (arith, to))))

pub each_number : (P : ℕ → Type 0) (a n : ℕ) → ((k : ℕ) → a ≤ k → k < a + n → P k) → AllByRecursion P (range_with_len a n)
each_number P a zero all = tt
each_number P a (suc n) all = (all a (omega arith) (omega arith), each_number P (a + 1) n (λ k from to. all k (omega (arith, from)) (omega (arith, to))))

-- ---- a block of a run of bytes

get_or_zeros : (xs : List ℕ) (n i : ℕ) → get_or (xs ++ replicate n 0) i 0 ≡ get_or xs i 0
get_or_zeros [] n i = zeros_at n i
get_or_zeros (x ∷ xs) n zero = refl
get_or_zeros (x ∷ xs) n (suc i) = get_or_zeros xs n i

pub byte_of_block : (size : ℕ) (bytes : List ℕ) (k r : ℕ) → r < size → get_or (block_of size bytes k) r 0 ≡ get_or bytes (k * size + r) 0
unfolding block_of
byte_of_block size bytes k r low =
    get_or-take size (drop (k * size) bytes ++ replicate size 0) r 0 low ∙ get_or_zeros (drop (k * size) bytes) size r ∙ get_or-drop (k * size) bytes r 0

-- bytes that are cut into blocks and joined again
pub text_again : (size : ℕ) (text : List ℕ) → IsBlockSize size → take (length text) (flat_map (block_of size text) (range_with_len 0 (blocks_of_size size (length text)))) ≡ text
text_again size text h =
    let n = blocks_of_size size (length text) in
    let least = (sized size h).least in
    let all = flat_map (block_of size text) (range_with_len 0 n) in
    let each : AllByRecursion (λ k. length (block_of size text k) ≡ size) (range_with_len 0 n) = each_number (λ k. length (block_of size text k) ≡ size) 0 n (λ k from to. length-block_of size text k) in
    let enough : length text ≤ n * size = whole_blocks size (length text) h in
    let len : length all ≡ n * size = length-joined (block_of size text) size (range_with_len 0 n) each ∙ ap (λ m. m * size) (length-range_with_len 0 n) in
    let short : length (take (length text) all) ≡ length text = length-take-le (length text) all (omega (arith, len, enough)) in
    ext_get_or 0 (take (length text) all) text short
    (λ i lt.
    let inside : i < length text = omega (arith, lt, short) in
    let k = i / size in
    let r = i % size in
    let split : k * size + r ≡ i = div-add-mod' i size in
    let low : r < size = mod_below i size (omega (arith, least)) in
    let there : k < n = div_below i size n (omega (arith, least)) (omega (arith, inside, enough)) in
    let place : get_or (range_with_len 0 n) k 0 ≡ k = get_or-range_with_len 0 n k 0 there ∙ omega arith in
    get_or-take (length text) all i 0 inside ∙ ap (λ m. get_or all m 0) (sym split)
    ∙ joined_at (block_of size text) size (range_with_len 0 n) k r 0 each (omega (arith, there, length-range_with_len 0 n)) low
    ∙ ap (λ m. get_or (block_of size text m) r 0) place ∙ byte_of_block size text k r low ∙ ap (λ m. get_or text m 0) split)
