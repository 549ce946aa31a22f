-- A file that is laid out block by block: each block is read as it was laid.
use Rattle.std.proofs.Common.{◌≡◌, ◌≤◌, ◌<◌, ◌+◌, ◌-◌, ◌*◌, ◌/◌, ◌%◌, ◌++◌, ℕ, zero, suc, Bool, true, false, cond, eqb, List, [], ◌∷◌, length, map, take, drop, replicate, Option, None, Some, refl, sym, ap, ◌∙◌, arith}
use Rattle.std.specs.List.{flat_map, range_with_len}
use Rattle.std.proofs.lemmas.Bool.{eq-eqb, ne_eqb}
use Rattle.std.proofs.lemmas.List.{append_assoc, drop-drop, drop_at, take_at, take-append-drop, length-append, length-drop, length-replicate, length-take-le}
use Rattle.std.proofs.lemmas.List.Sums.{sum_by-cons}
use Rattle.std.proofs.lemmas.Nat.{div-mul-add, mod-mul-add}
use Rattle.std.proofs.Math.Nat.{add-mul, lt-div-mul-add, suc-mul}
use Rattle.msf_blocks.specs.declared.superblock.Super.{Super}
use Rattle.msf_blocks.specs.Blocks.{IsBlockSize, blocks_of_size}
use Rattle.msf_blocks.proofs.Sizes.{sized}
use Rattle.msf_image.specs.Packed.{block_of, file_block, file_of, filled, given_block, given_before, stream_blocks, stream_bytes, stream_count, stream_from, streams_from}
use Rattle.msf_image.specs.Reads.{block_bytes, bytes_of_blocks}
use Rattle.msf_image.specs.Relation.{stream_in}
use Rattle.msf_image.proofs.Giving.{given_before_given, given_is}

pub length-block_of : (size : ℕ) (bytes : List ℕ) (k : ℕ) → length (block_of size bytes k) ≡ size
unfolding block_of
length-block_of size bytes k =
    length-take-le size (drop (k * size) bytes ++ replicate size 0) (omega (arith, length-append (drop (k * size) bytes) (replicate size 0), length-replicate {A = ℕ} size 0))

either_length : (t : Bool) (xs ys : List ℕ) (n : ℕ) → length xs ≡ n → length ys ≡ n → length (cond t xs ys) ≡ n
either_length true xs ys n a b = a
either_length false xs ys n a b = b

pub length-file_block : (size : ℕ) (head map1 content : List ℕ) (b : ℕ) → length (file_block size head map1 content b) ≡ size
unfolding file_block
length-file_block size head map1 content b =
    either_length (eqb b 0) _ _ size (length-block_of size head 0)
    (either_length (eqb (b % size) 1) _ _ size (length-block_of size map1 (b / size))
    (either_length (eqb (b % size) 2) _ _ size (length-block_of size [] 0) (length-block_of size content (given_before size b))))

-- pieces of one length, joined
laid_at : (size : ℕ) (f : ℕ → List ℕ) → ((b : ℕ) → length (f b) ≡ size) → (a n b : ℕ) → b < n → take size (drop (b * size) (flat_map f (range_with_len a n))) ≡ f (a + b)
laid_at size f len a zero b lt = absurd (omega (arith, lt))
laid_at size f len a (suc n) zero lt =
    let rest = flat_map f (range_with_len (a + 1) n) in
    let none : 0 * size ≡ 0 = omega arith in
    let same : a ≡ a + 0 = omega arith in
    ap (λ m. take size (drop m (f a ++ rest))) none ∙ take_at (f a) rest size (len a) ∙ ap f same
laid_at size f len a (suc n) (suc b) lt =
    let rest = flat_map f (range_with_len (a + 1) n) in
    let next : suc b * size ≡ size + b * size = omega (arith, suc-mul b size) in
    let same : a + 1 + b ≡ a + suc b = omega arith in
    ap (λ m. take size (drop m (f a ++ rest))) next ∙ ap (take size) (sym (drop-drop (b * size) size (f a ++ rest)))
    ∙ ap (λ xs. take size (drop (b * size) xs)) (drop_at (f a) rest size (len a)) ∙ laid_at size f len (a + 1) n b (omega (arith, lt)) ∙ ap f same

length-laid : (size : ℕ) (f : ℕ → List ℕ) → ((b : ℕ) → length (f b) ≡ size) → (a n : ℕ) → length (flat_map f (range_with_len a n)) ≡ n * size
length-laid size f len a zero = omega arith
length-laid size f len a (suc n) =
    let rest = flat_map f (range_with_len (a + 1) n) in
    omega (arith, length-append (f a) rest, len a, length-laid size f len (a + 1) n, suc-mul n size)

pub length-file_of : (size : ℕ) (head map1 content : List ℕ) (blocks : ℕ) → length (file_of size head map1 content blocks) ≡ blocks * size
unfolding file_of
length-file_of size head map1 content blocks = length-laid size (file_block size head map1 content) (length-file_block size head map1 content) 0 blocks

pub read_laid : (size : ℕ) (head map1 content : List ℕ) (blocks b : ℕ) → b < blocks → block_bytes size (file_of size head map1 content blocks) b ≡ file_block size head map1 content b
unfolding file_of
read_laid size head map1 content blocks b lt =
    let same : 0 + b ≡ b = omega arith in
    laid_at size (file_block size head map1 content) (length-file_block size head map1 content) 0 blocks b lt ∙ ap (file_block size head map1 content) same

-- a given block holds its part of the content
pub read_given : (size : ℕ) (head map1 content : List ℕ) (blocks k : ℕ) → IsBlockSize size → given_block size k < blocks → block_bytes size (file_of size head map1 content blocks) (given_block size k) ≡ block_of size content k
unfolding file_block
read_given size head map1 content blocks k h lt =
    let b = given_block size k in
    let is = given_is size k h in
    read_laid size head map1 content blocks b lt
    ∙ ap (λ t. cond t (block_of size head 0) (cond (eqb (b % size) 1) (block_of size map1 (b / size)) (cond (eqb (b % size) 2) (block_of size [] 0) (block_of size content (given_before size b))))) (ne_eqb b 0 (λ e. omega (arith, e, is.least)))
    ∙ ap (λ t. cond t (block_of size map1 (b / size)) (cond (eqb (b % size) 2) (block_of size [] 0) (block_of size content (given_before size b)))) (ne_eqb (b % size) 1 is.not_one)
    ∙ ap (λ t. cond t (block_of size [] 0) (block_of size content (given_before size b))) (ne_eqb (b % size) 2 is.not_two)
    ∙ ap (block_of size content) (given_before_given size k h)

-- a block of map 1
map_place : (size j : ℕ) → IsBlockSize size → ((1 + j * size) % size ≡ 1) × ((1 + j * size) / size ≡ j)
map_place size j h =
    let at : 1 + j * size ≡ j * size + 1 = omega arith in
    let small : 1 < size = omega (arith, (sized size h).least) in
    (ap (λ b. b % size) at ∙ mod-mul-add j size 1 small, ap (λ b. b / size) at ∙ div-mul-add j size 1 small)

pub read_map : (size : ℕ) (head map1 content : List ℕ) (blocks j : ℕ) → IsBlockSize size → 1 + j * size < blocks → block_bytes size (file_of size head map1 content blocks) (1 + j * size) ≡ block_of size map1 j
unfolding file_block
read_map size head map1 content blocks j h lt =
    let b = 1 + j * size in
    let place = map_place size j h in
    read_laid size head map1 content blocks b lt
    ∙ ap (λ t. cond t (block_of size head 0) (cond (eqb (b % size) 1) (block_of size map1 (b / size)) (cond (eqb (b % size) 2) (block_of size [] 0) (block_of size content (given_before size b))))) (ne_eqb b 0 (λ e. omega (arith, e)))
    ∙ ap (λ t. cond t (block_of size map1 (b / size)) (cond (eqb (b % size) 2) (block_of size [] 0) (block_of size content (given_before size b)))) (eq-eqb (b % size) 1 place.0)
    ∙ ap (block_of size map1) place.1

pub read_front : (size : ℕ) (head map1 content : List ℕ) (blocks : ℕ) → 0 < blocks → block_bytes size (file_of size head map1 content blocks) 0 ≡ block_of size head 0
unfolding file_block
read_front size head map1 content blocks some = read_laid size head map1 content blocks 0 some

-- so many blocks of a run of bytes
pub run_of : (size : ℕ) (file bytes : List ℕ) (place : ℕ → ℕ) (a n : ℕ) → ((k : ℕ) → a ≤ k → k < a + n → block_bytes size file (place k) ≡ block_of size bytes k)
    → bytes_of_blocks size file (map place (range_with_len a n)) ≡ flat_map (block_of size bytes) (range_with_len a n)
run_of size file bytes place a zero each = refl
run_of size file bytes place a (suc n) each =
    ap (λ xs. xs ++ bytes_of_blocks size file (map place (range_with_len (a + 1) n))) (each a (omega arith) (omega arith))
    ∙ ap (λ xs. block_of size bytes a ++ xs) (run_of size file bytes place (a + 1) n (λ k from to. each k (omega (arith, from)) (omega (arith, to))))

-- where whole blocks of bytes stand, they are read
pub run_is : (size : ℕ) (bytes xs rest : List ℕ) (a n : ℕ) → length xs ≡ n * size → drop (a * size) bytes ≡ xs ++ rest → flat_map (block_of size bytes) (range_with_len a n) ≡ xs
unfolding block_of
run_is size bytes [] rest a zero len at = refl
run_is size bytes (x ∷ xs) rest a zero len at = let none : 0 * size ≡ 0 = omega arith in absurd (omega (arith, len, none))
run_is size bytes xs rest a (suc n) len at =
    let front = take size xs in
    let behind = drop size xs in
    let many : length xs ≡ size + n * size = omega (arith, len, suc-mul n size) in
    let whole : xs ++ rest ≡ front ++ (behind ++ rest) = ap (λ ys. ys ++ rest) (sym (take-append-drop size xs)) ∙ append_assoc front behind rest in
    let n_front : length front ≡ size = length-take-le size xs (omega (arith, many)) in
    let n_behind : length behind ≡ n * size = omega (arith, length-drop size xs, many) in
    let first : take size (drop (a * size) bytes ++ replicate size 0) ≡ front =
    ap (λ ys. take size (ys ++ replicate size 0)) (at ∙ whole) ∙ ap (take size) (append_assoc front (behind ++ rest) (replicate size 0)) ∙ take_at front ((behind ++ rest) ++ replicate size 0) size n_front in
    let next : (a + 1) * size ≡ a * size + size = omega (arith, suc-mul a size) in
    let later : drop ((a + 1) * size) bytes ≡ behind ++ rest =
    ap (λ m. drop m bytes) next ∙ sym (drop-drop size (a * size) bytes) ∙ ap (drop size) (at ∙ whole) ∙ drop_at front (behind ++ rest) size n_front in
    ap (λ ys. ys ++ flat_map (block_of size bytes) (range_with_len (a + 1) n)) first ∙ ap (λ ys. front ++ ys) (run_is size bytes behind rest (a + 1) n n_behind later) ∙ take-append-drop size xs

-- whole blocks hold the bytes
pub whole_blocks : (size n : ℕ) → IsBlockSize size → n ≤ blocks_of_size size n * size
whole_blocks size n h =
    let least = (sized size h).least in
    let next : n + (size - 1) < blocks_of_size size n * size + size = lt-div-mul-add (omega (arith, least)) in
    omega (arith, next, least)

pub length-filled : (size : ℕ) (bytes : List ℕ) → IsBlockSize size → length (filled size bytes) ≡ blocks_of_size size (length bytes) * size
length-filled size bytes h =
    let pad = blocks_of_size size (length bytes) * size - length bytes in
    omega (arith, length-append bytes (replicate pad 0), length-replicate {A = ℕ} pad 0, whole_blocks size (length bytes) h)

-- The blocks from the a-th given one on hold this stream, and it is read.
content_laid : (s : Super) (file content behind : List ℕ) (x : Option (List ℕ)) (a : ℕ) → IsBlockSize s.block → drop (a * s.block) content ≡ filled s.block (stream_bytes x) ++ behind
    → ((k : ℕ) → a ≤ k → k < a + stream_count s.block x → block_bytes s.block file (given_block s.block k) ≡ block_of s.block content k) → stream_in file s (stream_from s.block a x) ≡ x
content_laid s file content behind None a h at each = refl
content_laid s file content behind (Some x) a h at each =
    let count = blocks_of_size s.block (length x) in
    let pad : List ℕ = replicate (count * s.block - length x) 0 in
    ap (λ bytes. Some (take (length x) bytes)) (run_of s.block file content (given_block s.block) a count each ∙ run_is s.block content (filled s.block x) behind a count (length-filled s.block x h) at)
    ∙ ap Some (take_at x pad (length x) refl)

-- the same of streams
pub contents_laid : (s : Super) (file content rest : List ℕ) (streams : List (Option (List ℕ))) (a : ℕ) → IsBlockSize s.block
    → drop (a * s.block) content ≡ flat_map (λ stream. filled s.block (stream_bytes stream)) streams ++ rest
    → ((k : ℕ) → a ≤ k → k < a + stream_blocks s.block streams → block_bytes s.block file (given_block s.block k) ≡ block_of s.block content k)
    → map (stream_in file s) (streams_from s.block a streams) ≡ streams
contents_laid s file content rest [] a h at each = refl
contents_laid s file content rest (x ∷ streams) a h at each =
    let count = stream_count s.block x in
    let more = sum_by-cons (stream_count s.block) x streams in
    let streams_filled = flat_map (λ stream. filled s.block (stream_bytes stream)) streams in
    let behind = streams_filled ++ rest in
    let front = filled s.block (stream_bytes x) in
    let here : drop (a * s.block) content ≡ front ++ behind = at ∙ append_assoc front streams_filled rest in
    let next : (a + count) * s.block ≡ a * s.block + count * s.block = omega (arith, add-mul a count s.block) in
    let later : drop ((a + count) * s.block) content ≡ behind =
    ap (λ m. drop m content) next ∙ sym (drop-drop (count * s.block) (a * s.block) content) ∙ ap (drop (count * s.block)) here
    ∙ drop_at front behind (count * s.block) (length-filled s.block (stream_bytes x) h) in
    ap (λ y. y ∷ map (stream_in file s) (streams_from s.block (a + count) streams)) (content_laid s file content behind x a h here (λ k from to. each k from (omega (arith, to, more))))
    ∙ ap (λ ys. x ∷ ys) (contents_laid s file content rest streams (a + count) h later (λ k from to. each k (omega (arith, from)) (omega (arith, to, more))))
