-- A packed file as it is made: one stream, one block or one number more.
use Rattle.std.proofs.Common.{◌≡◌, ◌≤◌, ◌<◌, ◌+◌, ◌-◌, ◌*◌, ◌/◌, ◌%◌, ◌^◌, ◌++◌, ◌⊎◌, inl, inr, ℕ, zero, suc, List, [], ◌∷◌, length, take, drop, replicate, get_or, min, Bool, true, false, ◌&&◌, not, All, Option, Some, None, Result, Ok, Err, refl, sym, ap, subst, ◌∙◌, eqb, arith}
use Rattle.std.specs.Prelude.{IfOk}
use Rattle.std.specs.Global.{Vec}
use Rattle.std.specs.List.{flat_map, range_with_len}
use Rattle.std.proofs.lemmas.Bool.{cases_lt}
use Rattle.std.proofs.lemmas.List.{append-nil, take-append-le, take-replicate, take_more, take-append-drop, take_all, drop_all, length-drop, length-map, length-take}
use Rattle.std.proofs.lemmas.List.Sums.{sum_by-append, sum_by-cons}
use Rattle.std.proofs.lemmas.Grind.{flat_map-append}
use Rattle.std.proofs.lemmas.List.Elements.{All-head, All-tail, All-map}
use Rattle.std.proofs.lemmas.Nat.{mul-le}
use Rattle.std.proofs.lemmas.Nat.Bits.{bit_at-zero}
use Rattle.std.specs.Int.{bit_at}
use Rattle.msf_blocks.specs.declared.superblock.Super.{Super}
use Rattle.msf_blocks.specs.Superblock.{superblock_text}
use Rattle.msf_blocks.specs.Bits.{has_bit}
use Rattle.msf_blocks.specs.Blocks.{IsBlockSize, blocks_of_size, is_reserved}
use Rattle.msf_blocks.proofs.Sizes.{IsBlockSize-le}
use Rattle.free_page_maps.specs.FreeBlocks.{FreeBlocks, free_in}
use Rattle.free_page_maps.specs.MapText.{map_text}
use Rattle.stream_directory.specs.Directory.{StreamBlocks, absent_size, directory_text, word}
use Rattle.msf_image.specs.declared.image.Image.{Image}
use Rattle.msf_image.specs.Packed.{IsPackable, IsSmall, directory_blocks_of, directory_bytes, directory_len, file_block, file_of, filled, given_block, given_from, none_of, packed_file, packed_content, packed_directory, packed_image, packed_listed, packed_map_addr, packed_super, present, stream_blocks, stream_bytes, stream_count, stream_from, streams_from}
use Rattle.msf_image.proofs.PackedStreams.{length-packed_text, length-streams_from}
use Rattle.msf_image.proofs.PackedFile.{front_and_more, none_below}

take_push : {A : Type 0} (xs : List A) (i : ℕ) (x : A) → i < length xs → x ≡ get_or xs i x → take (i + 1) xs ≡ take i xs ++ x ∷ []
take_push xs i x lt is = take_more xs i x lt ∙ ap (λ y. take i xs ++ y ∷ []) (sym is)

present-append : (xs ys : List (List ℕ)) → present (xs ++ ys) ≡ present xs ++ present ys
present-append [] ys = refl
present-append (x ∷ xs) ys = ap (λ zs. Some x ∷ zs) (present-append xs ys)

blocks-append : (size : ℕ) (xs ys : List (List ℕ)) → stream_blocks size (present (xs ++ ys)) ≡ stream_blocks size (present xs) + stream_blocks size (present ys)
blocks-append size xs ys = ap (stream_blocks size) (present-append xs ys) ∙ sum_by-append (stream_count size) (present xs) (present ys)

blocks-one : (size : ℕ) (x : List ℕ) → stream_blocks size (present (x ∷ [])) ≡ blocks_of_size size (length x)
blocks-one size x = let one = sum_by-cons (stream_count size) (Some x) [] in omega (arith, one)

pub blocks-more : (size : ℕ) (xs : List (List ℕ)) (i : ℕ) (x : List ℕ) → i < length xs → x ≡ get_or xs i x
    → stream_blocks size (present (take (i + 1) xs)) ≡ stream_blocks size (present (take i xs)) + blocks_of_size size (length x)
blocks-more size xs i x lt is =
    ap (λ ys. stream_blocks size (present ys)) (take_push xs i x lt is) ∙ blocks-append size (take i xs) (x ∷ []) ∙ ap (λ n. stream_blocks size (present (take i xs)) + n) (blocks-one size x)

pub blocks-take : (size : ℕ) (xs : List (List ℕ)) (i : ℕ) → stream_blocks size (present (take i xs)) ≤ stream_blocks size (present xs)
blocks-take size xs i =
    let split = ap (λ ys. stream_blocks size (present ys)) (sym (take-append-drop i xs)) ∙ blocks-append size (take i xs) (drop i xs) in omega (arith, split)

-- the directory
streams-push : (size k : ℕ) (xs : List (List ℕ)) (x : List ℕ) → streams_from size k (present (xs ++ x ∷ [])) ≡ streams_from size k (present xs) ++ stream_from size (k + stream_blocks size (present xs)) (Some x) ∷ []
streams-push size k [] x = let same : k ≡ k + 0 = omega arith in ap (λ j. stream_from size j (Some x) ∷ []) same
streams-push size k (y ∷ xs) x =
    let count = blocks_of_size size (length y) in
    let more = sum_by-cons (stream_count size) (Some y) (present xs) in
    let same : k + count + stream_blocks size (present xs) ≡ k + stream_blocks size (present (y ∷ xs)) = omega (arith, more) in
    ap (λ zs. stream_from size k (Some y) ∷ zs) (streams-push size (k + count) xs x ∙ ap (λ j. streams_from size (k + count) (present xs) ++ stream_from size j (Some x) ∷ []) same)

pub streams-more : (size : ℕ) (xs : List (List ℕ)) (i : ℕ) (x : List ℕ) → i < length xs → x ≡ get_or xs i x
    → streams_from size 0 (present (take (i + 1) xs)) ≡ streams_from size 0 (present (take i xs)) ++ stream_from size (stream_blocks size (present (take i xs))) (Some x) ∷ []
streams-more size xs i x lt is =
    let same : 0 + stream_blocks size (present (take i xs)) ≡ stream_blocks size (present (take i xs)) = omega arith in
    ap (λ ys. streams_from size 0 (present ys)) (take_push xs i x lt is) ∙ streams-push size 0 (take i xs) x ∙ ap (λ j. streams_from size 0 (present (take i xs)) ++ stream_from size j (Some x) ∷ []) same

-- the content
pub filled-more : (size : ℕ) (xs : List (List ℕ)) (i : ℕ) (x : List ℕ) → i < length xs → x ≡ get_or xs i x → flat_map (filled size) (take (i + 1) xs) ≡ flat_map (filled size) (take i xs) ++ filled size x
filled-more size xs i x lt is =
    ap (flat_map (filled size)) (take_push xs i x lt is) ∙ flat_map-append (filled size) (take i xs) (x ∷ []) ∙ ap (λ ys. flat_map (filled size) (take i xs) ++ ys) (append-nil (filled size x))

pub filled-present : (size : ℕ) (xs : List (List ℕ)) → flat_map (λ stream. filled size (stream_bytes stream)) (present xs) ≡ flat_map (filled size) xs
filled-present size [] = refl
filled-present size (x ∷ xs) = ap (λ ys. filled size x ++ ys) (filled-present size xs)

pub bytes-present : (xs : List (List ℕ)) (i : ℕ) → stream_bytes (get_or (present xs) i None) ≡ get_or xs i []
bytes-present [] i = refl
bytes-present (x ∷ xs) zero = refl
bytes-present (x ∷ xs) (suc i) = bytes-present xs i

-- the file
ranges_more : (a n : ℕ) → range_with_len a (suc n) ≡ range_with_len a n ++ (a + n) ∷ []
ranges_more a zero = let same : a ≡ a + 0 = omega arith in ap (λ b. b ∷ []) same
ranges_more a (suc n) = let same : a + 1 + n ≡ a + suc n = omega arith in ap (λ xs. a ∷ xs) (ranges_more (a + 1) n) ∙ ap (λ b. a ∷ (range_with_len (a + 1) n ++ b ∷ [])) same

range_more : (n : ℕ) → range_with_len 0 (n + 1) ≡ range_with_len 0 n ++ n ∷ []
range_more n =
    let next : n + 1 ≡ suc n = omega arith in
    let same : 0 + n ≡ n = omega arith in
    ap (range_with_len 0) next ∙ ranges_more 0 n ∙ ap (λ b. range_with_len 0 n ++ b ∷ []) same

pub file-more : (size : ℕ) (head map1 content : List ℕ) (b : ℕ) → file_of size head map1 content (b + 1) ≡ file_of size head map1 content b ++ file_block size head map1 content b
unfolding file_of
file-more size head map1 content b =
    let f = file_block size head map1 content in
    ap (flat_map f) (range_more b) ∙ flat_map-append f (range_with_len 0 b) (b ∷ []) ∙ ap (λ ys. flat_map f (range_with_len 0 b) ++ ys) (append-nil (f b))

-- part of some bytes, filled up with zeros
pub part_filled : (size n : ℕ) (xs : List ℕ) → (length xs ≤ n) ⊎ (n ≡ size) → n ≤ size → n ≤ length xs → take n xs ++ replicate (size - n) 0 ≡ take size (xs ++ replicate size 0)
part_filled size n xs (inl all) le fits =
    let len : length xs ≡ n = omega (arith, all, fits) in
    ap (λ ys. ys ++ replicate (size - n) 0) (take_all n xs all) ∙ ap (λ m. xs ++ replicate (size - m) 0) (sym len)
    ∙ ap (λ ys. xs ++ ys) (sym (take-replicate (size - length xs) size 0 (omega arith))) ∙ sym (front_and_more size xs (replicate size 0) (omega (arith, len, le)))
part_filled size n xs (inr whole) le fits =
    let none : size - n ≡ 0 = omega (arith, whole) in
    ap (λ m. take n xs ++ replicate m 0) none ∙ append-nil (take n xs) ∙ ap (λ m. take m xs) whole ∙ sym (take-append-le size xs (replicate size 0) (omega (arith, whole, fits)))

pub part_is : (size at from to : ℕ) (bytes : List ℕ) → from ≡ min (length bytes) at → to ≡ min (length bytes) (from + size)
    → take (to - from) (drop from bytes) ++ replicate (size - (to - from)) 0 ≡ take size (drop at bytes ++ replicate size 0)
part_is size at from to bytes begin end =
    let len = length-drop at bytes in
    let same : drop from bytes ≡ drop at bytes =
    elim (cases_lt (length bytes) at) [
      | inl past ↦ drop_all from bytes (omega (arith, begin, past)) ∙ sym (drop_all at bytes (omega (arith, past)))
      | inr within ↦ let begun : from ≡ at = omega (arith, begin, within) in ap (λ m. drop m bytes) begun
    ]
    in
    let either : (length (drop at bytes) ≤ to - from) ⊎ (to - from ≡ size) =
    elim (cases_lt (length (drop at bytes)) size) [ inl short ↦ inl (omega (arith, len, begin, end, short)) | inr long ↦ inr (omega (arith, len, begin, end, long)) ] in
    ap (λ xs. take (to - from) xs ++ replicate (size - (to - from)) 0) same ∙ part_filled size (to - from) (drop at bytes) either (omega (arith, begin, end)) (omega (arith, len, begin, end))

-- zeros have no bit
pub zeros_at : (n i : ℕ) → get_or (replicate {A = ℕ} n 0) i 0 ≡ 0
zeros_at zero i = refl
zeros_at (suc n) zero = refl
zeros_at (suc n) (suc i) = zeros_at n i

-- so a map of zeros has no free block
pub zeros_free : (size blocks n : ℕ) → free_in size blocks (replicate n 0) ≡ none_of blocks
zeros_free size blocks n =
    ap (λ free. record { blocks = blocks; free = free })
    (none_below blocks (λ b. not (is_reserved size b) && has_bit (replicate n 0) b)
    (λ b. and_none (not (is_reserved size b)) (ap (λ x. eqb (bit_at x (b % 8)) 1) (zeros_at n (b / 8)) ∙ ap (λ x. eqb x 1) (bit_at-zero (b % 8)))))
  where
    and_none : (t : Bool) {u : Bool} → u ≡ false → (t && u) ≡ false
    and_none true e = e
    and_none false e = refl

-- ---- the streams as they are asked for

pub sizes_of : (xs : List (List ℕ)) → All (λ stream. length (stream_bytes stream) < absent_size) (present xs) → All (λ x. length x < absent_size) xs
sizes_of [] all k d lt = absurd (omega (arith, lt))
sizes_of (x ∷ xs) all zero d lt = All-head (λ stream. length (stream_bytes stream) < absent_size) (Some x) (present xs) all
sizes_of (x ∷ xs) all (suc k) d lt = sizes_of xs (All-tail (λ stream. length (stream_bytes stream) < absent_size) (Some x) (present xs) all) k d (omega (arith, lt))

pub sizes_as : (xs : List (List ℕ)) → All (λ x. length x < absent_size) xs → All (λ stream. length (stream_bytes stream) < absent_size) (present xs)
sizes_as xs all = All-map (λ (stream : Option (List ℕ)). length (stream_bytes stream) < absent_size) Some xs all

pub size_at : (xs : List (List ℕ)) (i : ℕ) (x : List ℕ) → i < length xs → x ≡ get_or xs i x → All (λ x. length x < absent_size) xs → length x < absent_size
size_at xs i x lt is all = subst (λ y. length y < absent_size) (sym is) (all i x lt)

-- what the numbers of a packed file fit in
pub record HasRoom (size : ℕ) (streams : List (Option (List ℕ))) : Type 0 where
  pub kept : stream_blocks size streams < 2 ^ 20
  pub last : stream_blocks size streams + directory_blocks_of size streams < 2 ^ 20
  pub text : directory_bytes size streams < 2 ^ 29
  pub map_addr : packed_map_addr size streams < 2 ^ 20

given_no_less : (size k : ℕ) → k ≤ given_block size k
unfolding given_block
given_no_less size k = omega arith

pub has_room : (size : ℕ) (streams : List (Option (List ℕ))) → IsPackable size streams → HasRoom size streams
unfolding packed_map_addr
has_room size streams p =
    let least = given_no_less size (stream_blocks size streams + directory_blocks_of size streams) in
    let most = mul-le size size 32768 32768 (IsBlockSize-le size p.block) (IsBlockSize-le size p.block) in
    record { kept = omega (arith, p.blocks, least); last = omega (arith, p.blocks, least); text = omega (arith, p.directory, most); map_addr = omega (arith, p.blocks) }

pub length-present : (xs : List (List ℕ)) → length (present xs) ≡ length xs
length-present xs = length-map xs Some

-- the last two tests
pub small_of : (size : ℕ) (xs : List (List ℕ)) → IsPackable size (present xs) → IsSmall size (length xs) (stream_blocks size (present xs))
unfolding directory_bytes packed_map_addr
small_of size xs p = subst (λ n. IsSmall size n (stream_blocks size (present xs))) (length-present xs) (record { directory = p.directory; blocks = p.blocks })

pub packable_from : (size : ℕ) (xs : List (List ℕ)) → IsBlockSize size → stream_bytes (get_or (present xs) 0 None) ≡ [] → length xs < 2 ^ 16 → All (λ x. length x < absent_size) xs
    → IsSmall size (length xs) (stream_blocks size (present xs)) → IsPackable size (present xs)
unfolding directory_bytes packed_map_addr
packable_from size xs h first few all is =
    let same = length-present xs in
    let small : IsSmall size (length (present xs)) (stream_blocks size (present xs)) = subst (λ n. IsSmall size n (stream_blocks size (present xs))) (sym same) is in
    record { block = h; first = first; few = omega (arith, same, few); sizes = sizes_as xs all; directory = small.directory; blocks = small.blocks }

-- ---- what is made

pub one_stream : (size k : ℕ) (x : List ℕ) (stream : StreamBlocks) (blocks : List ℕ) → stream ≡ record { size = length x; blocks = blocks } → blocks ≡ given_from size k (blocks_of_size size (length x)) → Some stream ≡ stream_from size k (Some x)
one_stream size k x stream blocks is all = ap Some (is ∙ ap (λ bs. record { size = length x; blocks = bs }) all)

pub of_made : {E : Type 0} (file : List ℕ) (r : Result (Vec ℕ) E) (P : List ℕ → Type 0) → IfOk r (λ v. v.items ≡ file) → P file → IfOk r (λ v. P v.items)
of_made file (Ok v) P is p = subst P (sym is) p
of_made file (Err e) P is p = tt

made_as : (size : ℕ) (streams : List (Option (List ℕ))) (s : Super) (map1 content : List ℕ) → s ≡ packed_super size 0 streams → map1 ≡ map_text size (none_of s.blocks) → content ≡ packed_content size streams
    → file_of s.block (superblock_text s) map1 content s.blocks ≡ packed_file size 0 streams
unfolding packed_file
made_as size streams s map1 content head is holds =
    ap (λ m. file_of s.block (superblock_text s) m content s.blocks) is ∙ ap (λ c. file_of s.block (superblock_text s) (map_text size (none_of s.blocks)) c s.blocks) holds
    ∙ ap (λ (t : Super). file_of t.block (superblock_text t) (map_text size (none_of t.blocks)) (packed_content size streams) t.blocks) head

-- the image of its parts
abbrev image_made : ℕ → ℕ → ℕ → List (Option StreamBlocks) → FreeBlocks → Image
image_made size dir_bytes map_addr directory free =
    record { head = record { block = size; map = 1; blocks = map_addr + 1; dir_bytes = dir_bytes; unknown = 0; map_addr = map_addr }; directory = directory; free = free }

pub image_as : (size dir_bytes map_addr : ℕ) (streams : List (Option (List ℕ))) (directory : List (Option StreamBlocks)) (free : FreeBlocks) → dir_bytes ≡ directory_bytes size streams → map_addr ≡ packed_map_addr size streams
    → directory ≡ packed_directory size streams → free ≡ none_of (map_addr + 1) → image_made size dir_bytes map_addr directory free ≡ packed_image size 0 streams
image_as size dir_bytes map_addr streams directory free bytes addr spelled none =
    ap (image_made size dir_bytes map_addr directory) none ∙ ap (λ d. image_made size dir_bytes map_addr d (none_of (map_addr + 1))) spelled
    ∙ ap (λ a. image_made size dir_bytes a (packed_directory size streams) (none_of (a + 1))) addr
    ∙ ap (λ n. image_made size n (packed_map_addr size streams) (packed_directory size streams) (none_of (packed_map_addr size streams + 1))) bytes

-- the content of its parts
pub content_as : (size : ℕ) (xs : List (List ℕ)) (image : Image) (text listed content : List ℕ) → image ≡ packed_image size 0 (present xs) → text ≡ directory_text image.directory → listed ≡ packed_listed size (present xs)
    → content ≡ flat_map (filled size) xs ++ (filled size text ++ flat_map word listed) → content ≡ packed_content size (present xs)
unfolding packed_content
content_as size xs image text listed content same is all has =
    let spelled : text ≡ directory_text (packed_directory size (present xs)) = is ∙ ap (λ (i : Image). directory_text i.directory) same in
    has ∙ ap (λ t. flat_map (filled size) xs ++ (filled size t ++ flat_map word listed)) spelled
    ∙ ap (λ l. flat_map (filled size) xs ++ (filled size (directory_text (packed_directory size (present xs))) ++ flat_map word l)) all
    ∙ ap (λ front. front ++ (filled size (directory_text (packed_directory size (present xs))) ++ flat_map word (packed_listed size (present xs)))) (sym (filled-present size xs))

-- the file of its parts
pub packed_of : (size : ℕ) (xs : List (List ℕ)) (image : Image) (map1 content : List ℕ) → image ≡ packed_image size 0 (present xs) → map1 ≡ map_text size image.free → content ≡ packed_content size (present xs)
    → file_of image.head.block (superblock_text image.head) map1 content image.head.blocks ≡ packed_file size 0 (present xs)
packed_of size xs image map1 content same holds whole =
    let none : map1 ≡ map_text size (none_of image.head.blocks) = holds ∙ ap (λ (i : Image). map_text size i.free) same ∙ ap (λ (i : Image). map_text size (none_of i.head.blocks)) (sym same) in
    made_as size (present xs) image.head map1 content (ap (λ (i : Image). i.head) same) none whole

-- ---- the parts as they are counted

pub few_streams : (size : ℕ) (xs : List (List ℕ)) (i : ℕ) → length (streams_from size 0 (present (take i xs))) ≤ length xs
few_streams size xs i = omega (arith, length-streams_from size 0 (present (take i xs)), length-present (take i xs), length-take i xs)

pub all_streams : (size : ℕ) (xs : List (List ℕ)) (i : ℕ) → length xs ≤ i → streams_from size 0 (present (take i xs)) ≡ packed_directory size (present xs)
unfolding packed_directory
all_streams size xs i all = ap (λ ys. streams_from size 0 (present ys)) (take_all i xs all)

pub bytes_as : (size kept : ℕ) (xs : List (List ℕ)) → kept ≡ stream_blocks size (present xs) → 4 + 4 * length xs + 4 * kept ≡ directory_bytes size (present xs)
unfolding directory_bytes
bytes_as size kept xs same = omega (arith, same, length-present xs)

pub length-text : (size : ℕ) (xs : List (List ℕ)) (image : Image) (text : List ℕ) → IsBlockSize size → image ≡ packed_image size 0 (present xs) → text ≡ directory_text image.directory → length text ≡ directory_bytes size (present xs)
length-text size xs image text h same is = ap length (is ∙ ap (λ (i : Image). directory_text i.directory) same) ∙ length-packed_text size (present xs) h

-- too many blocks
pub too_many : (size streams kept : ℕ) → 2 ^ 20 ≤ kept → IsSmall size streams kept → ⊥
too_many size streams kept many is = omega (arith, many, is.blocks, given_no_less size (kept + blocks_of_size size (directory_len streams kept)))

pub listed_as : (size kept count : ℕ) (streams : List (Option (List ℕ))) → kept ≡ stream_blocks size streams → count ≡ directory_blocks_of size streams → given_from size kept count ≡ packed_listed size streams
unfolding packed_listed
listed_as size kept count streams a b = ap (λ k. given_from size k count) a ∙ ap (given_from size (stream_blocks size streams)) b

pub addr_as : (size kept count : ℕ) (streams : List (Option (List ℕ))) → kept ≡ stream_blocks size streams → count ≡ directory_blocks_of size streams → given_block size (kept + count) ≡ packed_map_addr size streams
unfolding packed_map_addr
addr_as size kept count streams a b = ap (λ k. given_block size (k + count)) a ∙ ap (λ k. given_block size (stream_blocks size streams + k)) b
