-- A packed file reads as its streams, with no free block.
use Rattle.std.proofs.Common.{◌≡◌, ◌≤◌, ◌<◌, ◌+◌, ◌-◌, ◌*◌, ◌/◌, ◌^◌, ◌++◌, ◌&&◌, not, ℕ, zero, suc, Bool, true, false, cond, List, [], ◌∷◌, length, map, take, drop, replicate, get_or, All, Option, refl, sym, ap, subst, ◌∙◌, arith}
use Rattle.std.specs.Prelude.{filter}
use Rattle.std.specs.List.{AllByRecursion, flat_map, range_with_len}
use Rattle.std.proofs.lemmas.List.{append_assoc, append-nil, drop_at, take_at, take-take, length-append}
use Rattle.std.proofs.lemmas.List.FromFn.{get_or-map-range_with_len, length-map-range_with_len}
use Rattle.std.proofs.lemmas.List.Sums.{sum_by-cons}
use Rattle.std.proofs.Math.Nat.{add-mul}
use Rattle.std.proofs.Math.Seq.{take-append-add}
use Rattle.msf_blocks.specs.declared.superblock.Super.{Super}
use Rattle.msf_blocks.specs.Blocks.{IsBlockSize, IsReserved, blocks_of_size, is_reserved, map_block, map_blocks}
use Rattle.msf_blocks.specs.Superblock.{superblock_text}
use Rattle.msf_blocks.proofs.Numbers.{little_number-little_bytes}
use Rattle.msf_blocks.proofs.Sizes.{sized}
use Rattle.free_page_maps.specs.FreeBlocks.{below_where, free_in, is_free, unreserved_where}
use Rattle.free_page_maps.specs.MapText.{map_text}
use Rattle.free_page_maps.proofs.MapTexts.{length-map_text, map_again}
use Rattle.stream_directory.specs.Directory.{AreUsable, blocks_in, directory_text, word}
use Rattle.stream_directory.specs.Reading.{words_in}
use Rattle.stream_directory.proofs.Streams.{Spells-directory_text}
use Rattle.msf_image.specs.Packed.{IsPackable, block_of, directory_blocks_of, directory_bytes, filled, given_block, given_from, none_of, packed_file, packed_content, packed_directory, packed_image, packed_listed, packed_map_addr, packed_super, stream_blocks, stream_bytes, stream_count}
use Rattle.msf_image.specs.Reads.{IsWhole, active_map_blocks, block_bytes, bytes_of_blocks, free_blocks_in, used_blocks}
use Rattle.msf_image.specs.Relation.{Reads, contents_in, directory_in, stream_in, used_in}
use Rattle.msf_image.proofs.Directories.{map_inside}
use Rattle.msf_image.proofs.Laying.{contents_laid, length-file_of, length-filled, read_front, read_given, read_map, run_is, run_of}
use Rattle.msf_image.proofs.Listed.{fit, usable_both}
use Rattle.msf_image.proofs.PackedStreams.{inside_packed, is_directory, is_super, length-packed_text, listed_usable, none_skipped}

-- ---- the superblock

pub length-superblock_text : (s : Super) → length (superblock_text s) ≡ 56
unfolding superblock_text
length-superblock_text s = refl

front_of : (size : ℕ) (text file : List ℕ) → 512 ≤ size → length text ≡ 56 → block_bytes size file 0 ≡ block_of size text 0 → take 56 file ≡ text
unfolding block_of
front_of size text file least len same =
    let none : 0 * size ≡ 0 = omega arith in
    let whole : take size file ≡ take size (text ++ replicate size 0) = ap (λ m. take size (drop m file)) (sym none) ∙ same ∙ ap (λ m. take size (drop m text ++ replicate size 0)) none in
    let short : 56 ≤ size = omega (arith, least) in
    sym (take-take 56 size file short) ∙ ap (take 56) whole ∙ take-take 56 size (text ++ replicate size 0) short ∙ take_at text (replicate size 0) 56 len

pub packed_front : (size unknown : ℕ) (streams : List (Option (List ℕ))) → IsPackable size streams → take 56 (packed_file size unknown streams) ≡ superblock_text (packed_super size unknown streams)
unfolding packed_file
packed_front size unknown streams p =
    let s = packed_super size unknown streams in
    front_of size (superblock_text s) (packed_file size unknown streams) (sized size p.block).least (length-superblock_text s) (read_front size (superblock_text s) (map_text size (none_of s.blocks)) (packed_content size streams) s.blocks (omega arith))

pub length-packed_file : (size unknown : ℕ) (streams : List (Option (List ℕ))) → length (packed_file size unknown streams) ≡ (packed_map_addr size streams + 1) * size
unfolding packed_file
length-packed_file size unknown streams =
    let s = packed_super size unknown streams in length-file_of size (superblock_text s) (map_text size (none_of s.blocks)) (packed_content size streams) s.blocks

-- ---- what the given blocks hold

-- each given block up to the block map
each_given : (size unknown : ℕ) (streams : List (Option (List ℕ))) → IsPackable size streams → (k : ℕ) → k ≤ stream_blocks size streams + directory_blocks_of size streams
    → block_bytes size (packed_file size unknown streams) (given_block size k) ≡ block_of size (packed_content size streams) k
unfolding packed_file
each_given size unknown streams p k le =
    let s = packed_super size unknown streams in
    read_given size (superblock_text s) (map_text size (none_of s.blocks)) (packed_content size streams) s.blocks k p.block (inside_packed size unknown streams p.block k le)

length-streams_filled : (size : ℕ) (streams : List (Option (List ℕ))) → IsBlockSize size → length (flat_map (λ stream. filled size (stream_bytes stream)) streams) ≡ stream_blocks size streams * size
length-streams_filled size [] h = omega arith
length-streams_filled size (x ∷ streams) h =
    let count = stream_count size x in
    let more = sum_by-cons (stream_count size) x streams in
    omega (arith, length-append (filled size (stream_bytes x)) (flat_map (λ stream. filled size (stream_bytes stream)) streams), length-filled size (stream_bytes x) h, length-streams_filled size streams h, add-mul count (stream_blocks size streams) size)
    ∙ ap (λ n. n * size) (sym more)

-- the directory's text behind the streams
behind_streams : (size : ℕ) (streams : List (Option (List ℕ))) → IsPackable size streams
    → drop (stream_blocks size streams * size) (packed_content size streams) ≡ filled size (directory_text (packed_directory size streams)) ++ flat_map word (packed_listed size streams)
unfolding packed_content
behind_streams size streams p = drop_at (flat_map (λ stream. filled size (stream_bytes stream)) streams) _ (stream_blocks size streams * size) (length-streams_filled size streams p.block)

length-text_filled : (size : ℕ) (streams : List (Option (List ℕ))) → IsPackable size streams → length (filled size (directory_text (packed_directory size streams))) ≡ directory_blocks_of size streams * size
length-text_filled size streams p =
    length-filled size (directory_text (packed_directory size streams)) p.block ∙ ap (λ n. blocks_of_size size n * size) (length-packed_text size streams p.block)

-- and the block map behind it
behind_text : (size : ℕ) (streams : List (Option (List ℕ))) → IsPackable size streams
    → drop ((stream_blocks size streams + directory_blocks_of size streams) * size) (packed_content size streams) ≡ flat_map word (packed_listed size streams)
unfolding packed_content
behind_text size streams p =
    let a = flat_map (λ stream. filled size (stream_bytes stream)) streams in
    let b = filled size (directory_text (packed_directory size streams)) in
    let c = flat_map word (packed_listed size streams) in
    let len : length (a ++ b) ≡ (stream_blocks size streams + directory_blocks_of size streams) * size =
    omega (arith, length-append a b, length-streams_filled size streams p.block, length-text_filled size streams p, add-mul (stream_blocks size streams) (directory_blocks_of size streams) size) in
    ap (drop ((stream_blocks size streams + directory_blocks_of size streams) * size)) (sym (append_assoc a b c)) ∙ drop_at (a ++ b) c _ len

-- ---- the block map and the directory

given_words : (size a n most : ℕ) → most ≤ 2 ^ 32 → ((k : ℕ) → a ≤ k → k < a + n → given_block size k < most) → AllByRecursion (λ b. b < 2 ^ 32) (given_from size a n)
given_words size a zero most few below = tt
given_words size a (suc n) most few below =
    (omega (arith, few, below a (omega arith) (omega arith)), given_words size (a + 1) n most few (λ k from to. below k (omega (arith, from)) (omega (arith, to))))

pub length-word_text : (words : List ℕ) → length (flat_map word words) ≡ 4 * length words
length-word_text [] = refl
length-word_text (n ∷ words) = let h = length-word_text words in omega (arith, h)

-- the words of the bytes of words, whatever stands behind
pub words_back : (words more : List ℕ) → AllByRecursion (λ b. b < 2 ^ 32) words → take (length words) (words_in (flat_map word words ++ more)) ≡ words
unfolding words_in
words_back [] more h = refl
words_back (n ∷ words) more h =
    ap (λ k. k ∷ take (length words) (words_in (flat_map word words ++ more))) (little_number-little_bytes n [] h.0) ∙ ap (λ ws. n ∷ ws) (words_back words more h.1)

-- the numbers of the directory's blocks fit in one block
pub listed_short : (size bytes : ℕ) → IsBlockSize size → bytes ≤ size * size / 4 → 4 * blocks_of_size size bytes ≤ size
listed_short size bytes h le =
    let is = sized size h in
    omega (arith, fit size bytes (size / 4) is.least is.eighth le (omega arith))

length-packed_listed : (size : ℕ) (streams : List (Option (List ℕ))) → length (packed_listed size streams) ≡ directory_blocks_of size streams
unfolding packed_listed
length-packed_listed size streams = length-map-range_with_len (given_block size) (stream_blocks size streams) (directory_blocks_of size streams)

listed_words : (size unknown : ℕ) (streams : List (Option (List ℕ))) → IsPackable size streams → AllByRecursion (λ b. b < 2 ^ 32) (packed_listed size streams)
unfolding packed_listed
listed_words size unknown streams p =
    given_words size (stream_blocks size streams) (directory_blocks_of size streams) (packed_map_addr size streams + 1) (omega (arith, p.blocks)) (λ k from to. inside_packed size unknown streams p.block k (omega (arith, to)))

pub front_and_more : (n : ℕ) (xs ys : List ℕ) → length xs ≤ n → take n (xs ++ ys) ≡ xs ++ take (n - length xs) ys
front_and_more n xs ys short =
    let whole : n ≡ length xs + (n - length xs) = omega (arith, short) in
    ap (λ m. take m (xs ++ ys)) whole ∙ take-append-add xs ys (n - length xs)

-- the front of a block
part_front : (size k : ℕ) (bytes xs : List ℕ) → length xs ≤ size → drop (k * size) bytes ≡ xs → (more : List ℕ) × (block_of size bytes k ≡ xs ++ more)
unfolding block_of
part_front size k bytes xs short at = (take (size - length xs) (replicate size 0), ap (λ ys. take size (ys ++ replicate size 0)) at ∙ front_and_more size xs (replicate size 0) short)

pub map_words : (size : ℕ) (bytes words : List ℕ) (k : ℕ) → 4 * length words ≤ size → AllByRecursion (λ b. b < 2 ^ 32) words → drop (k * size) bytes ≡ flat_map word words → take (length words) (words_in (block_of size bytes k)) ≡ words
map_words size bytes words k short fits at =
    let front = part_front size k bytes (flat_map word words) (omega (arith, length-word_text words, short)) at in
    ap (λ ys. take (length words) (words_in ys)) front.1 ∙ words_back words front.0 fits

map_addr_read : (size unknown : ℕ) (streams : List (Option (List ℕ))) → IsPackable size streams
    → block_bytes size (packed_file size unknown streams) (packed_map_addr size streams) ≡ block_of size (packed_content size streams) (stream_blocks size streams + directory_blocks_of size streams)
unfolding packed_map_addr
map_addr_read size unknown streams p = each_given size unknown streams p (stream_blocks size streams + directory_blocks_of size streams) (omega arith)

pub packed_blocks_listed : (size unknown : ℕ) (streams : List (Option (List ℕ))) → IsPackable size streams
    → take (directory_blocks_of size streams) (words_in (block_bytes size (packed_file size unknown streams) (packed_map_addr size streams))) ≡ packed_listed size streams
packed_blocks_listed size unknown streams p =
    let len = length-packed_listed size streams in
    let short : 4 * length (packed_listed size streams) ≤ size = omega (arith, len, listed_short size (directory_bytes size streams) p.block p.directory) in
    ap (λ ys. take (directory_blocks_of size streams) (words_in ys)) (map_addr_read size unknown streams p)
    ∙ ap (λ n. take n (words_in (block_of size (packed_content size streams) (stream_blocks size streams + directory_blocks_of size streams)))) (sym len)
    ∙ map_words size (packed_content size streams) (packed_listed size streams) (stream_blocks size streams + directory_blocks_of size streams) short (listed_words size unknown streams p) (behind_text size streams p)

-- the directory's text is read
pub text_read : (size unknown : ℕ) (streams : List (Option (List ℕ))) → IsPackable size streams → bytes_of_blocks size (packed_file size unknown streams) (packed_listed size streams) ≡ filled size (directory_text (packed_directory size streams))
unfolding packed_listed
text_read size unknown streams p =
    let n = stream_blocks size streams in
    let d = directory_blocks_of size streams in
    let content = packed_content size streams in
    let text = filled size (directory_text (packed_directory size streams)) in
    run_of size (packed_file size unknown streams) content (given_block size) n d (λ k from to. each_given size unknown streams p k (omega (arith, to)))
    ∙ run_is size content text (flat_map word (given_from size n d)) n d (length-text_filled size streams p) (behind_streams size streams p)

-- ---- the map

none_pass : (p : ℕ → Bool) → ((b : ℕ) → p b ≡ false) → (xs : List ℕ) → filter p xs ≡ []
none_pass p never [] = refl
none_pass p never (x ∷ xs) = ap (λ t. cond t (x ∷ filter p xs) (filter p xs)) (never x) ∙ none_pass p never xs

pub none_below : (blocks : ℕ) (p : ℕ → Bool) → ((b : ℕ) → p b ≡ false) → below_where blocks p ≡ []
unfolding below_where
none_below blocks p never = none_pass p never (range_with_len 0 blocks)

-- a map that says that no block is free is read so
none_again : (size blocks : ℕ) → 0 < size → free_in size blocks (map_text size (none_of blocks)) ≡ none_of blocks
none_again size blocks some =
    let none : unreserved_where size blocks (λ _. false) ≡ none_of blocks = ap (λ free. record { blocks = blocks; free = free }) (none_below blocks (λ b. not (is_reserved size b) && false) (λ b. and_false (not (is_reserved size b)))) in
    ap (λ m. free_in size blocks (map_text size m)) (sym none) ∙ map_again size blocks (λ _. false) some ∙ none
  where
    and_false : (t : Bool) → (t && false) ≡ false
    and_false true = refl
    and_false false = refl

map_read : (size unknown : ℕ) (streams : List (Option (List ℕ))) → unknown < 2 ^ 32 → IsPackable size streams
    → bytes_of_blocks size (packed_file size unknown streams) (active_map_blocks (packed_super size unknown streams)) ≡ map_text size (none_of (packed_map_addr size streams + 1))
unfolding packed_file
map_read size unknown streams fits p =
    let s = packed_super size unknown streams in
    let text = map_text size (none_of s.blocks) in
    let n = map_blocks size s.blocks in
    let inside = map_inside s n (active_map_blocks s) (is_super size unknown streams fits p) refl refl in
    let none : 0 * size ≡ 0 = omega arith in
    let at : drop (0 * size) text ≡ text ++ [] = ap (λ m. drop m text) none ∙ sym (append-nil text) in
    run_of size (packed_file size unknown streams) text (map_block size 1) 0 n
    (λ k from to.
    let lt : k < n = omega (arith, to) in
    let there : k < length (active_map_blocks s) = omega (arith, lt, length-map-range_with_len (map_block size 1) 0 n) in
    let place : get_or (active_map_blocks s) k 0 ≡ 1 + k * size = get_or-map-range_with_len (map_block size 1) 0 n k k 0 lt (omega arith) in
    read_map size (superblock_text s) text (packed_content size streams) s.blocks k p.block (omega (arith, place, inside k 0 there)))
    ∙ run_is size text text [] 0 n (length-map_text size (none_of s.blocks)) at

packed_free : (size unknown : ℕ) (streams : List (Option (List ℕ))) → unknown < 2 ^ 32 → IsPackable size streams
    → free_blocks_in (packed_file size unknown streams) (packed_super size unknown streams) ≡ none_of (packed_map_addr size streams + 1)
unfolding free_blocks_in
packed_free size unknown streams fits p =
    let blocks = packed_map_addr size streams + 1 in
    ap (free_in size blocks) (map_read size unknown streams fits p) ∙ none_again size blocks (omega (arith, (sized size p.block).least))

-- ---- the law

-- the directory's text
packed_text : (size unknown : ℕ) (streams : List (Option (List ℕ))) → IsPackable size streams → directory_in (packed_file size unknown streams) (packed_super size unknown streams) ≡ directory_text (packed_directory size streams)
packed_text size unknown streams p =
    let text = directory_text (packed_directory size streams) in
    let pad : List ℕ = replicate (blocks_of_size size (length text) * size - length text) 0 in
    ap (λ listed. take (directory_bytes size streams) (bytes_of_blocks size (packed_file size unknown streams) listed)) (packed_blocks_listed size unknown streams p)
    ∙ ap (take (directory_bytes size streams)) (text_read size unknown streams p) ∙ take_at text pad (directory_bytes size streams) (length-packed_text size streams p.block)

others-map : {A B : Type 0} (f : A → B) (xs : List A) → map f (drop 1 xs) ≡ drop 1 (map f xs)
others-map f [] = refl
others-map f (x ∷ xs) = refl

packed_contents : (size unknown : ℕ) (streams : List (Option (List ℕ))) → IsPackable size streams → drop 1 streams ≡ contents_in (packed_file size unknown streams) (packed_image size unknown streams)
unfolding packed_directory packed_content
packed_contents size unknown streams p =
    let file = packed_file size unknown streams in
    let s = packed_super size unknown streams in
    let rest = filled size (directory_text (packed_directory size streams)) ++ flat_map word (packed_listed size streams) in
    let none : 0 * size ≡ 0 = omega arith in
    let at : drop (0 * size) (packed_content size streams) ≡ flat_map (λ stream. filled size (stream_bytes stream)) streams ++ rest = ap (λ m. drop m (packed_content size streams)) none in
    let all = contents_laid s file (packed_content size streams) rest streams 0 p.block at (λ k from to. each_given size unknown streams p k (omega (arith, to))) in
    sym (others-map (stream_in file s) (packed_directory size streams) ∙ ap (drop 1) all)

-- what it reads as is whole
all_none : (P : ℕ → Type 0) → All P []
all_none P k d lt = absurd (omega (arith, lt))

all_used : (blocks : ℕ) (used : List ℕ) → All (λ b. is_free (none_of blocks) b ≡ false) used
all_used blocks used k d lt = refl

packed_usable : (size unknown : ℕ) (streams : List (Option (List ℕ))) → IsPackable size streams
    → AreUsable (packed_super size unknown streams) [] (used_blocks (packed_map_addr size streams ∷ packed_listed size streams) (packed_directory size streams))
packed_usable size unknown streams p =
    usable_both (packed_super size unknown streams) [] (packed_map_addr size streams ∷ packed_listed size streams) (flat_map blocks_in (packed_directory size streams)) (listed_usable size unknown streams p) (is_directory size unknown streams p).usable

pub packed_whole : (size unknown : ℕ) (streams : List (Option (List ℕ))) → unknown < 2 ^ 32 → IsPackable size streams → IsWhole (packed_image size unknown streams)
packed_whole size unknown streams fits p =
    let s = packed_super size unknown streams in
    let listed = packed_map_addr size streams ∷ packed_listed size streams in
    let directory = is_directory size unknown streams p in
    record {
      head = is_super size unknown streams fits p;
      blocks = packed_listed size streams;
      count = length-packed_listed size streams;
      directory = directory;
      usable = packed_usable size unknown streams p;
      none_free = all_used s.blocks (used_blocks listed (packed_directory size streams));
      size = refl;
      inside = all_none (λ b. b < s.blocks);
      unreserved = all_none (λ b. ¬ IsReserved size b);
      rising = λ k lt. absurd (omega (arith, lt));
    }

pub packed_reads : (size unknown limit : ℕ) (streams : List (Option (List ℕ))) → unknown < 2 ^ 32 → IsPackable size streams → packed_map_addr size streams + 1 ≤ limit
    → Reads (packed_file size unknown streams) limit (packed_image size unknown streams) (drop 1 streams)
packed_reads size unknown limit streams fits p few =
    let s = packed_super size unknown streams in
    let directory = packed_directory size streams in
    let whole = packed_whole size unknown streams fits p in
    record {
      head = whole.head;
      text = packed_front size unknown streams p;
      limited = few;
      inside = omega (arith, length-packed_file size unknown streams);
      spelled = Spells-directory_text size directory (directory_in (packed_file size unknown streams) s) (none_skipped size streams p) (packed_text size unknown streams p);
      sized = whole.directory.sized;
      usable = subst (λ listed. AreUsable s [] (used_blocks (s.map_addr ∷ listed) directory)) (sym (packed_blocks_listed size unknown streams p)) (packed_usable size unknown streams p);
      free = sym (packed_free size unknown streams fits p);
      none_free = all_used s.blocks (used_in (packed_file size unknown streams) (packed_image size unknown streams));
      contents = packed_contents size unknown streams p;
    }
