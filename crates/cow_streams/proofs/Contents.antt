-- What the new blocks of a stream hold is its content after the edits.
use Rattle.std.proofs.Common.{◌≡◌, ◌≤◌, ◌<◌, ◌+◌, ◌-◌, ◌*◌, ◌/◌, ◌%◌, ◌⊎◌, ℕ, zero, suc, List, [], ◌∷◌, length, map, take, drop, get_or, Option, Some, None, refl, sym, ap, subst, ◌∙◌, inl, inr, arith}
use Rattle.std.specs.List.{AllByRecursion, flat_map, range_with_len}
use Rattle.std.specs.Option.{option_map}
use Rattle.std.proofs.lemmas.List.{ext_get_or, get_or-take, length-take-le}
use Rattle.std.proofs.lemmas.List.FromFn.{get_or-map-range_with_len, length-map-range_with_len}
use Rattle.std.proofs.lemmas.Nat.{div-add-mod', div-mul-add, div_below, mod_below, mul-le}
use Rattle.std.proofs.Math.Nat.{add-mul, div-mul-le_self, suc-mul}
use Rattle.msf_blocks.specs.declared.superblock.Super.{Super}
use Rattle.msf_blocks.specs.Blocks.{IsBlockSize, blocks_of_size}
use Rattle.msf_blocks.specs.Edit.{StreamEdit}
use Rattle.msf_blocks.proofs.Sizes.{sized}
use Rattle.stream_directory.specs.Directory.{IsSized, StreamBlocks, blocks_in}
use Rattle.msf_image.specs.Packed.{block_of}
use Rattle.msf_image.specs.Reads.{block_bytes, bytes_of_blocks}
use Rattle.msf_image.specs.Relation.{stream_in}
use Rattle.msf_image.proofs.Laying.{length-block_of, whole_blocks}
use Rattle.cow_streams.specs.Edits.{IsCovered, byte_by, edit_at, edited_from, edited_stream, has_byte, len_after}
use Rattle.cow_streams.specs.Layout.{kept, all_parts, kept_in, laid, laid_one, layout_of, layouts_from, numbers, part_at, part_by, parts_in, parts_of, pieces}
use Rattle.cow_streams.specs.Planned.{Stands, writes_to}
use Rattle.cow_streams.proofs.Editing.{IsAligned, found_begins, found_has, same_edit}
use Rattle.cow_streams.proofs.Joined.{byte_of_block, each_place, joined_at, length-joined}
use Rattle.cow_streams.proofs.Lists.{each_at, each_behind, each_front}
use Rattle.cow_streams.proofs.Numbering.{kept_in-append, part_bytes, parts_joined, pieces-append, writes-append}

-- ---- one block

-- a block that no edit has is one of the old stream, as far as the new length reaches
pub covered_inside : (size : ℕ) (edits : List StreamEdit) (i k j : ℕ) (stream : StreamBlocks) → IsCovered size edits i (Some stream) → edit_at edits i (k * size) ≡ None → k * size ≤ j → j < k * size + size → j < len_after edits i stream.size → j < stream.size
covered_inside size edits i k j stream covered none from to lt =
    elim (covered k (omega (arith, from, lt)) none) [ inl short ↦ omega (arith, short, lt) | inr whole ↦ omega (arith, whole, to, suc-mul k size) ]

block_found : (size n j : ℕ) → IsBlockSize size → j < n → j / size < blocks_of_size size n
block_found size n j h lt = div_below j size (blocks_of_size size n) (omega (arith, (sized size h).least)) (omega (arith, lt, whole_blocks size n h))

-- a byte of an edit, by the block in which it is
byte_of_edit : (size k r at : ℕ) (bytes : List ℕ) → 0 < size → at % size ≡ 0 → at ≤ k * size → r < size → get_or (block_of size bytes (k - at / size)) r 0 ≡ get_or bytes (k * size + r - at) 0
byte_of_edit size k r at bytes some none from low =
    let a = at / size in
    let whole : a * size ≡ at = omega (arith, div-add-mod' at size, none) in
    let le : a ≤ k = le_of a whole in
    let split : k * size ≡ a * size + (k - a) * size = ap (λ n. n * size) (sum_of a le) ∙ add-mul a (k - a) size in
    byte_of_block size bytes (k - a) r low ∙ ap (λ m. get_or bytes m 0) (omega (arith, whole, split))
  where
    sum_of : (a : ℕ) → a ≤ k → k ≡ a + (k - a)
    sum_of a le = omega (arith, le)

    div_whole : (a : ℕ) → a * size ≤ k * size → a ≤ k
    div_whole a le = elim (cases a k) [ inl is ↦ is | inr more ↦ absurd (let next = mul-le (k + 1) size a size (omega (arith, more)) (omega arith) in omega (arith, next, suc-mul k size, le, some)) ]
      where
        cases : (a k : ℕ) → (a ≤ k) ⊎ (k < a)
        cases zero k = inl (omega arith)
        cases (suc a) zero = inr (omega arith)
        cases (suc a) (suc k) = elim (cases a k) [ inl le ↦ inl (omega (arith, le)) | inr lt ↦ inr (omega (arith, lt)) ]

    le_of : (a : ℕ) → a * size ≡ at → a ≤ k
    le_of a whole = div_whole a (omega (arith, whole, from))

-- ---- how many blocks bytes take

pub block_begins : (size n k : ℕ) → IsBlockSize size → k < blocks_of_size size n → k * size < n
block_begins size n k h lt =
    let most = div-mul-le_self (n + (size - 1)) size in
    let next = mul-le (k + 1) size (blocks_of_size size n) size (omega (arith, lt)) (omega arith) in
    omega (arith, most, next, suc-mul k size, (sized size h).least)

pub below_count : (size n k : ℕ) → IsBlockSize size → k * size < n → k < blocks_of_size size n
below_count size n k h lt = block_at (div-mul k)
  where
    div-mul : (k : ℕ) → (k * size + 0) / size ≡ k
    div-mul k = div-mul-add k size 0 (omega (arith, (sized size h).least))

    block_at : (k * size + 0) / size ≡ k → k < blocks_of_size size n
    block_at same = let found = block_found size n (k * size + 0) h (omega (arith, lt)) in omega (arith, same, found)

-- ---- one stream

part_byte : (size : ℕ) (file : List ℕ) (edits : List StreamEdit) (i j : ℕ) (stream : StreamBlocks) (o : Option StreamEdit) → IsBlockSize size → AllByRecursion (IsAligned size i (len_after edits i stream.size)) edits → IsCovered size edits i (Some stream)
    → length stream.blocks ≡ blocks_of_size size stream.size → AllByRecursion (λ b. length (block_bytes size file b) ≡ size) stream.blocks → j < len_after edits i stream.size → edit_at edits i (j / size * size) ≡ o
    → get_or (part_bytes size file (part_by size stream.blocks (j / size) o)) (j % size) 0 ≡ byte_by j (take stream.size (bytes_of_blocks size file stream.blocks)) o
part_byte size file edits i j stream None h aligned covered count whole lt is =
    let k = j / size in
    let r = j % size in
    let all = bytes_of_blocks size file stream.blocks in
    let split : k * size + r ≡ j = div-add-mod' j size in
    let low : r < size = mod_below j size (omega (arith, (sized size h).least)) in
    let inside : j < stream.size = covered_inside size edits i k j stream covered is (omega (arith, split)) (omega (arith, split, low)) lt in
    let there : k < length stream.blocks = omega (arith, count, block_found size stream.size j h inside) in
    sym (get_or-take stream.size all j 0 inside ∙ ap (λ m. get_or all m 0) (sym split) ∙ joined_at (block_bytes size file) size stream.blocks k r 0 whole there low)
part_byte size file edits i j stream (Some e) h aligned covered count whole lt is =
    let some : 0 < size = omega (arith, (sized size h).least) in
    let found = found_has (has_byte i (j / size * size)) (IsAligned size i (len_after edits i stream.size)) edits e is aligned in
    let at = found_begins i (j / size * size) e found.0 in
    byte_of_edit size (j / size) (j % size) e.at e.bytes some found.1.begins at.1 (mod_below j size some) ∙ ap (λ m. get_or e.bytes (m - e.at) 0) (div-add-mod' j size)

part_whole : (size : ℕ) (file : List ℕ) (edits : List StreamEdit) (i k : ℕ) (stream : StreamBlocks) (o : Option StreamEdit) → IsBlockSize size → IsCovered size edits i (Some stream) → length stream.blocks ≡ blocks_of_size size stream.size
    → AllByRecursion (λ b. length (block_bytes size file b) ≡ size) stream.blocks → k < blocks_of_size size (len_after edits i stream.size) → edit_at edits i (k * size) ≡ o → length (part_bytes size file (part_by size stream.blocks k o)) ≡ size
part_whole size file edits i k stream None h covered count whole lt is =
    let least = (sized size h).least in
    let begins = block_begins size (len_after edits i stream.size) k h lt in
    let inside = covered_inside size edits i k (k * size) stream covered is (omega arith) (omega (arith, least)) begins in
    each_at (λ b. length (block_bytes size file b) ≡ size) stream.blocks k 0 whole (omega (arith, count, below_count size stream.size k h inside))
part_whole size file edits i k stream (Some e) h covered count whole lt is = length-block_of size e.bytes (k - e.at / size)

pub content_after : (size : ℕ) (file : List ℕ) (edits : List StreamEdit) (i : ℕ) (stream : StreamBlocks) → IsBlockSize size → AllByRecursion (IsAligned size i (len_after edits i stream.size)) edits → IsCovered size edits i (Some stream)
    → length stream.blocks ≡ blocks_of_size size stream.size → AllByRecursion (λ b. length (block_bytes size file b) ≡ size) stream.blocks
    → take (len_after edits i stream.size) (flat_map (part_bytes size file) (parts_of size edits i stream)) ≡ edited_stream edits i (take stream.size (bytes_of_blocks size file stream.blocks))
unfolding edited_stream
content_after size file edits i stream h aligned covered count whole =
    let some : 0 < size = omega (arith, (sized size h).least) in
    let len = len_after edits i stream.size in
    let n = blocks_of_size size len in
    let f = part_at size edits i stream.blocks in
    let parts = parts_of size edits i stream in
    let all = flat_map (part_bytes size file) parts in
    let joined = bytes_of_blocks size file stream.blocks in
    let old = take stream.size joined in
    let n_joined : length joined ≡ length stream.blocks * size = length-joined (block_bytes size file) size stream.blocks whole in
    let n_old : length old ≡ stream.size = length-take-le stream.size joined (omega (arith, n_joined, ap (λ m. m * size) count, whole_blocks size stream.size h)) in
    let each : AllByRecursion (λ part. length (part_bytes size file part) ≡ size) parts =
    each_place (λ part. length (part_bytes size file part) ≡ size) f 0 n (λ k from to. part_whole size file edits i k stream (edit_at edits i (k * size)) h covered count whole (omega (arith, to)) refl) in
    let n_all : length all ≡ n * size = length-joined (part_bytes size file) size parts each ∙ ap (λ m. m * size) (length-map-range_with_len f 0 n) in
    let short : length (take len all) ≡ len = length-take-le len all (omega (arith, n_all, whole_blocks size len h)) in
    let g = λ (j : ℕ). byte_by j old (edit_at edits i j) in
    let m_new : len_after edits i (length old) ≡ len = ap (len_after edits i) n_old in
    let new = map g (range_with_len 0 (len_after edits i (length old))) in
    let n_new : length new ≡ len = length-map-range_with_len g 0 (len_after edits i (length old)) ∙ m_new in
    ext_get_or 0 (take len all) new (short ∙ sym n_new)
    (λ j below.
    let lt : j < len = omega (arith, below, short) in
    let k = j / size in
    let r = j % size in
    let split : k * size + r ≡ j = div-add-mod' j size in
    let low : r < size = mod_below j size some in
    let there : k < n = block_found size len j h lt in
    let part : get_or parts k (kept 0) ≡ f k = get_or-map-range_with_len f 0 n k k (kept 0) there (omega arith) in
    get_or-take len all j 0 lt ∙ ap (λ m. get_or all m 0) (sym split)
    ∙ joined_at (part_bytes size file) size parts k r (kept 0) each (omega (arith, there, length-map-range_with_len f 0 n)) low
    ∙ ap (λ p. get_or (part_bytes size file p) r 0) part ∙ part_byte size file edits i j stream (edit_at edits i (k * size)) h aligned covered count whole lt refl
    ∙ ap (byte_by j old) (same_edit size i j len edits some aligned lt)
    ∙ sym (get_or-map-range_with_len g 0 (len_after edits i (length old)) j j 0 (omega (arith, lt, m_new)) (omega arith)))

-- ---- all streams

pub stream_after : (s t : Super) (file other : List ℕ) (edits : List StreamEdit) (i : ℕ) (x : Option StreamBlocks) (given : List ℕ) → t.block ≡ s.block → IsBlockSize s.block → ((n : ℕ) → AllByRecursion (IsAligned s.block i (len_after edits i n)) edits)
    → IsCovered s.block edits i x → IsSized s.block x → AllByRecursion (λ b. length (block_bytes s.block file b) ≡ s.block) (blocks_in x) → AllByRecursion (Stands s.block other) (writes_to (pieces (parts_in (layout_of s.block edits i x))) given)
    → AllByRecursion (λ b. block_bytes s.block other b ≡ block_bytes s.block file b) (kept_in (parts_in (layout_of s.block edits i x)))
    → stream_in other t (laid_one (layout_of s.block edits i x) given) ≡ option_map (edited_stream edits i) (stream_in file s x)
stream_after s t file other edits i None given same h aligned covered is whole stand keeps = refl
stream_after s t file other edits i (Some stream) given same h aligned covered is whole stand keeps =
    let len = len_after edits i stream.size in
    let parts = parts_of s.block edits i stream in
    ap (λ size. Some (take len (bytes_of_blocks size other (numbers parts given)))) same ∙ ap (λ bytes. Some (take len bytes)) (parts_joined s.block file other parts given stand keeps)
    ∙ ap Some (content_after s.block file edits i stream h (aligned stream.size) covered is.1 whole)

pub streams_after : (s t : Super) (file other : List ℕ) (edits : List StreamEdit) (i : ℕ) (streams : List (Option StreamBlocks)) (given : List ℕ) → t.block ≡ s.block → IsBlockSize s.block → ((j n : ℕ) → AllByRecursion (IsAligned s.block j (len_after edits j n)) edits)
    → ((k : ℕ) → IsCovered s.block edits (i + k) (get_or streams k None)) → AllByRecursion (IsSized s.block) streams → AllByRecursion (λ b. length (block_bytes s.block file b) ≡ s.block) (flat_map blocks_in streams)
    → AllByRecursion (Stands s.block other) (writes_to (pieces (all_parts (layouts_from s.block edits i streams))) given)
    → AllByRecursion (λ b. block_bytes s.block other b ≡ block_bytes s.block file b) (kept_in (all_parts (layouts_from s.block edits i streams)))
    → map (stream_in other t) (laid (layouts_from s.block edits i streams) given) ≡ edited_from edits i (map (stream_in file s) streams)
streams_after s t file other edits i [] given same h aligned covered are whole stand keeps = refl
streams_after s t file other edits i (x ∷ streams) given same h aligned covered are whole stand keeps =
    let Same = λ (b : ℕ). block_bytes s.block other b ≡ block_bytes s.block file b in
    let Whole = λ (b : ℕ). length (block_bytes s.block file b) ≡ s.block in
    let here = parts_in (layout_of s.block edits i x) in
    let rest = layouts_from s.block edits (i + 1) streams in
    let more = drop (length (pieces here)) given in
    let split = ap (λ ps. writes_to ps given) (pieces-append here (all_parts rest)) ∙ writes-append (pieces here) (pieces (all_parts rest)) given in
    let stand_all = subst (AllByRecursion (Stands s.block other)) split stand in
    let keeps_all = subst (AllByRecursion Same) (kept_in-append here (all_parts rest)) keeps in
    let at_first : i + 0 ≡ i = omega arith in
    let first = stream_after s t file other edits i x given same h (aligned i) (subst (λ j. IsCovered s.block edits j x) at_first (covered 0)) are.0 (each_front Whole (blocks_in x) (flat_map blocks_in streams) whole)
    (each_front (Stands s.block other) (writes_to (pieces here) given) (writes_to (pieces (all_parts rest)) more) stand_all) (each_front Same (kept_in here) (kept_in (all_parts rest)) keeps_all) in
    let others = streams_after s t file other edits (i + 1) streams more same h aligned
    (λ k. let next : i + suc k ≡ i + 1 + k = omega arith in subst (λ j. IsCovered s.block edits j (get_or streams k None)) next (covered (suc k))) are.1 (each_behind Whole (blocks_in x) (flat_map blocks_in streams) whole)
    (each_behind (Stands s.block other) (writes_to (pieces here) given) (writes_to (pieces (all_parts rest)) more) stand_all) (each_behind Same (kept_in here) (kept_in (all_parts rest)) keeps_all) in
    ap (λ y. y ∷ map (stream_in other t) (laid rest more)) first ∙ ap (λ ys. option_map (edited_stream edits i) (stream_in file s x) ∷ ys) others
