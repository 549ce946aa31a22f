-- One stream or one block more.
use Rattle.std.proofs.Common.{◌≡◌, ◌≤◌, ◌<◌, ◌+◌, ◌-◌, ◌*◌, ◌/◌, ◌++◌, ℕ, zero, suc, Bool, true, false, cond, ◌||◌, find, List, [], ◌∷◌, length, map, take, drop, get_or, Option, Some, None, refl, sym, ap, subst, ◌∙◌, arith}
use Rattle.std.specs.List.{list_any, range_with_len}
use Rattle.std.proofs.lemmas.Grind.{flat_map-append}
use Rattle.std.proofs.lemmas.List.{append_assoc, append-nil, drop-drop, get_or-drop, get_or_read, length-append, take-append-drop, take_all, take_more}
use Rattle.std.proofs.lemmas.List.FromFn.{length-map-range_with_len, map-range_with_len_more, take-map-range_with_len}
use Rattle.std.proofs.lemmas.Nat.{div-mul-add, div_below}
use Rattle.std.proofs.Math.Nat.{suc-mul}
use Rattle.msf_blocks.specs.declared.superblock.Super.{Super}
use Rattle.msf_blocks.specs.Blocks.{IsBlockSize, blocks_of_size, map_block}
use Rattle.msf_blocks.specs.Edit.{StreamEdit}
use Rattle.msf_blocks.proofs.Sizes.{sized}
use Rattle.stream_directory.specs.Directory.{IsSized, StreamBlocks}
use Rattle.msf_image.specs.Packed.{block_of}
use Rattle.cow_streams.specs.Edits.{IsCovered, edit_at, len_after}
use Rattle.cow_streams.specs.Layout.{Layout, Part, all_parts, first_laid, laid, laid_one, layout_of, layouts, layouts_from, numbers, part_at, part_by, parts_in, parts_of, parts_to, pieces}
use Rattle.cow_streams.specs.Planned.{Write, blocks_of, writes_to}
use Rattle.cow_streams.proofs.Contents.{below_count, block_begins, covered_inside}
use Rattle.cow_streams.proofs.Numbering.{length-writes_to, numbers-append, pieces-append, writes-append}
use Rattle.cow_streams.proofs.Wholeness.{length-layouts}

-- ---- the streams by their numbers

layouts_from_at : (size : ℕ) (edits : List StreamEdit) (i : ℕ) (streams : List (Option StreamBlocks)) (k : ℕ) (d : Option Layout) → k < length streams → get_or (layouts_from size edits i streams) k d ≡ layout_of size edits (i + k) (get_or streams k None)
layouts_from_at size edits i [] k d lt = absurd (omega (arith, lt))
layouts_from_at size edits i (x ∷ streams) zero d lt = let same : i ≡ i + 0 = omega arith in ap (λ j. layout_of size edits j x) same
layouts_from_at size edits i (x ∷ streams) (suc k) d lt =
    let same : i + 1 + k ≡ i + suc k = omega arith in
    layouts_from_at size edits (i + 1) streams k d (omega (arith, lt)) ∙ ap (λ j. layout_of size edits j (get_or streams k None)) same

layouts_at : (size : ℕ) (edits : List StreamEdit) (streams : List (Option StreamBlocks)) (i : ℕ) (d : Option Layout) → 1 ≤ i → i < length streams → get_or (layouts size edits streams) i d ≡ layout_of size edits i (get_or streams i None)
unfolding layouts
layouts_at size edits [] i d some lt = absurd (omega (arith, lt))
layouts_at size edits (x ∷ streams) zero d some lt = absurd (omega (arith, some))
layouts_at size edits (x ∷ streams) (suc k) d some lt =
    let same : 1 + k ≡ suc k = omega arith in
    layouts_from_at size edits 1 streams k d (omega (arith, lt)) ∙ ap (λ j. layout_of size edits j (get_or streams k None)) same

pub layouts_more : (size : ℕ) (edits : List StreamEdit) (streams : List (Option StreamBlocks)) (i : ℕ) (x : Option StreamBlocks) → 1 ≤ i → i < length streams → x ≡ get_or streams i x
    → take (i + 1) (layouts size edits streams) ≡ take i (layouts size edits streams) ++ layout_of size edits i x ∷ []
layouts_more size edits streams i x some lt is =
    let ls = layouts size edits streams in
    take_more ls i None (omega (arith, lt, length-layouts size edits streams))
    ∙ ap (λ l. take i ls ++ l ∷ []) (layouts_at size edits streams i None some lt ∙ ap (layout_of size edits i) (sym (get_or_read streams i x lt is None)))

pub layouts_all : (size : ℕ) (edits : List StreamEdit) (streams : List (Option StreamBlocks)) (i : ℕ) → length streams ≤ i → take i (layouts size edits streams) ≡ layouts size edits streams
layouts_all size edits streams i all = take_all i (layouts size edits streams) (omega (arith, all, length-layouts size edits streams))

pub first_parts : (size : ℕ) (edits : List StreamEdit) (streams : List (Option StreamBlocks)) → all_parts (take 1 (layouts size edits streams)) ≡ []
unfolding layouts
first_parts size edits [] = refl
first_parts size edits (x ∷ streams) = refl

pub first_is : (size : ℕ) (edits : List StreamEdit) (streams : List (Option StreamBlocks)) (given : List ℕ) → laid (take 1 (layouts size edits streams)) given ≡ first_laid streams
unfolding layouts
first_is size edits [] given = refl
first_is size edits (x ∷ streams) given = refl

pub parts_more : (ls : List (Option Layout)) (l : Option Layout) → all_parts (ls ++ l ∷ []) ≡ all_parts ls ++ parts_in l
parts_more ls l = flat_map-append parts_in ls (l ∷ []) ∙ ap (λ ps. all_parts ls ++ ps) (append-nil (parts_in l))

-- one stream more is counted
pub blocks_more : (size : ℕ) (edits : List StreamEdit) (streams : List (Option StreamBlocks)) (i : ℕ) (x : Option StreamBlocks) → 1 ≤ i → i < length streams → x ≡ get_or streams i x
    → length (all_parts (take (i + 1) (layouts size edits streams))) ≡ length (all_parts (take i (layouts size edits streams))) + length (parts_in (layout_of size edits i x))
blocks_more size edits streams i x some lt is =
    let ls = take i (layouts size edits streams) in
    ap (λ all. length (all_parts all)) (layouts_more size edits streams i x some lt is) ∙ ap length (parts_more ls (layout_of size edits i x)) ∙ length-append (all_parts ls) (parts_in (layout_of size edits i x))

pub pieces_more : (size : ℕ) (edits : List StreamEdit) (streams : List (Option StreamBlocks)) (i : ℕ) (x : Option StreamBlocks) → 1 ≤ i → i < length streams → x ≡ get_or streams i x
    → length (pieces (all_parts (take (i + 1) (layouts size edits streams)))) ≡ length (pieces (all_parts (take i (layouts size edits streams)))) + length (pieces (parts_in (layout_of size edits i x)))
pieces_more size edits streams i x some lt is =
    let ls = take i (layouts size edits streams) in
    let here = parts_in (layout_of size edits i x) in
    ap (λ all. length (pieces (all_parts all))) (layouts_more size edits streams i x some lt is) ∙ ap (λ ps. length (pieces ps)) (parts_more ls (layout_of size edits i x))
    ∙ ap length (pieces-append (all_parts ls) here) ∙ length-append (pieces (all_parts ls)) (pieces here)

pub length_parts_of : (size : ℕ) (edits : List StreamEdit) (i : ℕ) (stream : StreamBlocks) → length (parts_of size edits i stream) ≡ blocks_of_size size (len_after edits i stream.size)
length_parts_of size edits i stream = length-map-range_with_len (part_at size edits i stream.blocks) 0 (blocks_of_size size (len_after edits i stream.size))

-- ---- the blocks of a stream

pub parts_to_more : (size : ℕ) (edits : List StreamEdit) (i : ℕ) (old : List ℕ) (k : ℕ) → parts_to size edits i old (k + 1) ≡ parts_to size edits i old k ++ part_at size edits i old k ∷ []
parts_to_more size edits i old k = map-range_with_len_more (part_at size edits i old) 0 k k (omega arith)

-- how many blocks one is
abbrev pub count_by : Option StreamEdit → ℕ
count_by None = 0
count_by (Some e) = 1

one_piece : (size : ℕ) (old : List ℕ) (k : ℕ) (o : Option StreamEdit) → length (pieces (part_by size old k o ∷ [])) ≡ count_by o
one_piece size old k None = refl
one_piece size old k (Some e) = refl

pub written_more : (size : ℕ) (edits : List StreamEdit) (i : ℕ) (old : List ℕ) (k : ℕ) (o : Option StreamEdit) → edit_at edits i (k * size) ≡ o → length (pieces (parts_to size edits i old (k + 1))) ≡ length (pieces (parts_to size edits i old k)) + count_by o
written_more size edits i old k o is =
    let ps = parts_to size edits i old k in
    let one = part_at size edits i old k ∷ [] in
    ap (λ all. length (pieces all)) (parts_to_more size edits i old k) ∙ ap length (pieces-append ps one) ∙ length-append (pieces ps) (pieces one)
    ∙ ap (λ n. length (pieces ps) + n) (ap (λ x. length (pieces (part_by size old k x ∷ []))) is ∙ one_piece size old k o)

pub counted_one : (p : StreamEdit → Bool) (edits : List StreamEdit) → list_any p edits ≡ true → count_by (find p edits) ≡ 1
counted_one p [] is = absurd cc
counted_one p (e ∷ edits) is = step (p e) is (λ later. counted_one p edits later)
  where
    step : (t : Bool) → (t || list_any p edits) ≡ true → (list_any p edits ≡ true → count_by (find p edits) ≡ 1) → count_by (cond t (Some e) (find p edits)) ≡ 1
    step true is more = refl
    step false is more = more is

pub counted_none : (p : StreamEdit → Bool) (edits : List StreamEdit) → list_any p edits ≡ false → count_by (find p edits) ≡ 0
counted_none p [] is = refl
counted_none p (e ∷ edits) is = step (p e) is (λ later. counted_none p edits later)
  where
    step : (t : Bool) → (t || list_any p edits) ≡ false → (list_any p edits ≡ false → count_by (find p edits) ≡ 0) → count_by (cond t (Some e) (find p edits)) ≡ 0
    step true is more = absurd cc
    step false is more = more is

-- parts in front have no more pieces than all
pieces_take : (n : ℕ) (ps : List Part) → length (pieces (take n ps)) ≤ length (pieces ps)
pieces_take n ps =
    let split = ap (λ all. length (pieces all)) (sym (take-append-drop n ps)) ∙ ap length (pieces-append (take n ps) (drop n ps)) ∙ length-append (pieces (take n ps)) (pieces (drop n ps)) in
    omega (arith, split)

pub enough_parts : (size : ℕ) (edits : List StreamEdit) (i : ℕ) (old : List ℕ) (k n : ℕ) → k < n → length (pieces (parts_to size edits i old k)) + length (pieces (part_at size edits i old k ∷ [])) ≤ length (pieces (parts_to size edits i old n))
enough_parts size edits i old k n lt =
    let f = part_at size edits i old in
    let ps = parts_to size edits i old k in
    let one = part_at size edits i old k ∷ [] in
    let more = ap (λ all. length (pieces all)) (parts_to_more size edits i old k) ∙ ap length (pieces-append ps one) ∙ length-append (pieces ps) (pieces one) in
    let front = ap (λ all. length (pieces all)) (take-map-range_with_len f 0 n (k + 1) (omega (arith, lt))) in
    omega (arith, more, front, pieces_take (k + 1) (parts_to size edits i old n))

pub enough_streams : (size : ℕ) (edits : List StreamEdit) (streams : List (Option StreamBlocks)) (i : ℕ) (x : Option StreamBlocks) → 1 ≤ i → i < length streams → x ≡ get_or streams i x
    → length (pieces (all_parts (take i (layouts size edits streams)))) + length (pieces (parts_in (layout_of size edits i x))) ≤ length (pieces (all_parts (layouts size edits streams)))
enough_streams size edits streams i x some lt is =
    let ls = layouts size edits streams in
    let split = ap (λ all. length (pieces (all_parts all))) (sym (take-append-drop (i + 1) ls)) ∙ ap (λ ps. length (pieces ps)) (flat_map-append parts_in (take (i + 1) ls) (drop (i + 1) ls))
    ∙ ap length (pieces-append (all_parts (take (i + 1) ls)) (all_parts (drop (i + 1) ls))) ∙ length-append (pieces (all_parts (take (i + 1) ls))) (pieces (all_parts (drop (i + 1) ls))) in
    omega (arith, split, pieces_more size edits streams i x some lt is)

-- a block that no edit has is there
pub kept_there : (size : ℕ) (edits : List StreamEdit) (i : ℕ) (stream : StreamBlocks) (k : ℕ) → IsBlockSize size → IsCovered size edits i (Some stream) → IsSized size (Some stream) → k < blocks_of_size size (len_after edits i stream.size) → edit_at edits i (k * size) ≡ None → k < length stream.blocks
kept_there size edits i stream k h covered is lt none =
    let begins = block_begins size (len_after edits i stream.size) k h lt in
    let inside = covered_inside size edits i k (k * size) stream covered none (omega arith) (omega (arith, (sized size h).least)) begins in
    omega (arith, is.1, below_count size stream.size k h inside)

-- ---- one more is laid

drop_on : {X : Type 0} (w n m : ℕ) (xs : List X) → n ≡ w + m → drop n xs ≡ drop m (drop w xs)
drop_on w n m xs same = ap (λ k. drop k xs) same ∙ sym (drop-drop m w xs)

pub numbers_step : (ps : List Part) (p : Part) (given : List ℕ) (w n b : ℕ) (blocks : List ℕ) → n ≡ w + length (pieces ps) → blocks ≡ numbers ps (drop w given) → b ∷ [] ≡ numbers (p ∷ []) (drop n given) → blocks ++ b ∷ [] ≡ numbers (ps ++ p ∷ []) (drop w given)
numbers_step ps p given w n b blocks same so_far one =
    ap (λ bs. bs ++ b ∷ []) so_far ∙ ap (λ bs. numbers ps (drop w given) ++ bs) (one ∙ ap (numbers (p ∷ [])) (drop_on w n (length (pieces ps)) given same)) ∙ sym (numbers-append ps (p ∷ []) (drop w given))

pub writes_step : (ps qs : List Part) (given : List ℕ) (w n : ℕ) (old now new : List Write) → n ≡ w + length (pieces ps) → now ≡ old ++ writes_to (pieces ps) (drop w given) → new ≡ now ++ writes_to (pieces qs) (drop n given)
    → new ≡ old ++ writes_to (pieces (ps ++ qs)) (drop w given)
writes_step ps qs given w n old now new same so_far more =
    more ∙ ap (λ ws. ws ++ writes_to (pieces qs) (drop n given)) so_far ∙ append_assoc old (writes_to (pieces ps) (drop w given)) (writes_to (pieces qs) (drop n given))
    ∙ ap (λ ws. old ++ ws) (ap (λ rest. writes_to (pieces ps) (drop w given) ++ writes_to (pieces qs) rest) (drop_on w n (length (pieces ps)) given same) ∙ sym (writes-append (pieces ps) (pieces qs) (drop w given)) ∙ ap (λ xs. writes_to xs (drop w given)) (sym (pieces-append ps qs)))

-- how many writes there are then
pub writes_count : (ps : List Part) (blocks : List ℕ) (old now : List Write) → now ≡ old ++ writes_to (pieces ps) blocks → length now ≡ length old + length (pieces ps)
writes_count ps blocks old now is = ap length is ∙ length-append old (writes_to (pieces ps) blocks) ∙ ap (λ n. length old + n) (length-writes_to (pieces ps) blocks)

laid_append : (ls : List (Option Layout)) (l : Option Layout) (given : List ℕ) → laid (ls ++ l ∷ []) given ≡ laid ls given ++ laid_one l (drop (length (pieces (all_parts ls))) given) ∷ []
laid_append [] l given = refl
laid_append (x ∷ ls) l given =
    let n = length (pieces (parts_in x)) in
    let m = length (pieces (all_parts ls)) in
    let count : length (pieces (parts_in x ++ all_parts ls)) ≡ n + m = ap length (pieces-append (parts_in x) (all_parts ls)) ∙ length-append (pieces (parts_in x)) (pieces (all_parts ls)) in
    ap (λ rest. laid_one x given ∷ rest) (laid_append ls l (drop n given) ∙ ap (λ more. laid ls (drop n given) ++ laid_one l more ∷ []) (drop-drop m n given ∙ ap (λ k. drop k given) (sym count)))

pub laid_step : (ls : List (Option Layout)) (l : Option Layout) (given : List ℕ) (w n : ℕ) (all : List (Option StreamBlocks)) (x : Option StreamBlocks) → n ≡ w + length (pieces (all_parts ls)) → all ≡ laid ls (drop w given) → x ≡ laid_one l (drop n given)
    → all ++ x ∷ [] ≡ laid (ls ++ l ∷ []) (drop w given)
laid_step ls l given w n all x same so_far one =
    ap (λ xs. xs ++ x ∷ []) so_far ∙ ap (λ y. laid ls (drop w given) ++ y ∷ []) (one ∙ ap (laid_one l) (drop_on w n (length (pieces (all_parts ls))) given same)) ∙ sym (laid_append ls l (drop w given))

-- ---- one block

pub fresh_number : (size : ℕ) (old : List ℕ) (k w b : ℕ) (e : StreamEdit) (o : Option StreamEdit) (given : List ℕ) → Some e ≡ o → b ≡ get_or given w 0 → b ∷ [] ≡ numbers (part_by size old k o ∷ []) (drop w given)
fresh_number size old k w b e o given is at =
    let same : w ≡ w + 0 = omega arith in
    subst (λ x. b ∷ [] ≡ numbers (part_by size old k x ∷ []) (drop w given)) is (ap (λ n. n ∷ []) (at ∙ ap (λ m. get_or given m 0) same ∙ sym (get_or-drop w given 0 0)))

pub fresh_write : (size : ℕ) (old : List ℕ) (k w b : ℕ) (piece : List ℕ) (e : StreamEdit) (o : Option StreamEdit) (given : List ℕ) (writes : List Write) → Some e ≡ o → b ≡ get_or given w 0 → piece ≡ block_of size e.bytes (k - e.at / size)
    → writes ++ record { block = b; bytes = piece } ∷ [] ≡ writes ++ writes_to (pieces (part_by size old k o ∷ [])) (drop w given)
fresh_write size old k w b piece e o given writes is at holds =
    let same : w ≡ w + 0 = omega arith in
    subst (λ x. writes ++ record { block = b; bytes = piece } ∷ [] ≡ writes ++ writes_to (pieces (part_by size old k x ∷ [])) (drop w given)) is
    (ap (λ p. writes ++ record { block = b; bytes = p } ∷ []) holds
    ∙ ap (λ n. writes ++ record { block = n; bytes = block_of size e.bytes (k - e.at / size) } ∷ []) (at ∙ ap (λ m. get_or given m 0) same ∙ sym (get_or-drop w given 0 0)))

pub kept_number : (size : ℕ) (old : List ℕ) (k b : ℕ) (o : Option StreamEdit) (given : List ℕ) → None ≡ o → b ≡ get_or old k 0 → b ∷ [] ≡ numbers (part_by size old k o ∷ []) given
kept_number size old k b o given is at = subst (λ x. b ∷ [] ≡ numbers (part_by size old k x ∷ []) given) is (ap (λ n. n ∷ []) at)

pub kept_write : (size : ℕ) (old : List ℕ) (k : ℕ) (o : Option StreamEdit) (given : List ℕ) (writes : List Write) → None ≡ o → writes ≡ writes ++ writes_to (pieces (part_by size old k o ∷ [])) given
kept_write size old k o given writes is = subst (λ x. writes ≡ writes ++ writes_to (pieces (part_by size old k x ∷ [])) given) is (sym (append-nil writes))

pub one_fresh : (size : ℕ) (old : List ℕ) (k : ℕ) (e : StreamEdit) (o : Option StreamEdit) → Some e ≡ o → length (pieces (part_by size old k o ∷ [])) ≡ 1
one_fresh size old k e o is = subst (λ x. length (pieces (part_by size old k x ∷ [])) ≡ 1) is refl

pub edit_block : (size at k : ℕ) → IsBlockSize size → at ≤ k * size → at / size ≤ k
edit_block size at k h le =
    let least = (sized size h).least in
    let below = div_below at size (k + 1) (omega (arith, least)) (omega (arith, le, least, suc-mul k size)) in
    omega (arith, below)

-- ---- blocks of other bytes

pub text_step : (xs : List (List ℕ)) (x : List ℕ) (given : List ℕ) (w n b : ℕ) (old now : List Write) → n ≡ w + length xs → now ≡ old ++ writes_to xs (drop w given) → b ≡ get_or given n 0
    → now ++ record { block = b; bytes = x } ∷ [] ≡ old ++ writes_to (xs ++ x ∷ []) (drop w given)
text_step xs x given w n b old now same so_far at =
    let last = writes_to (x ∷ []) (drop (length xs) (drop w given)) in
    let none : n ≡ n + 0 = omega arith in
    let first : b ≡ get_or (drop (length xs) (drop w given)) 0 0 = at ∙ ap (λ m. get_or given m 0) none ∙ sym (get_or-drop n given 0 0) ∙ ap (λ rest. get_or rest 0 0) (drop_on w n (length xs) given same) in
    ap (λ ws. ws ++ record { block = b; bytes = x } ∷ []) so_far ∙ append_assoc old (writes_to xs (drop w given)) (record { block = b; bytes = x } ∷ [])
    ∙ ap (λ ws. old ++ ws) (ap (λ m. writes_to xs (drop w given) ++ record { block = m; bytes = x } ∷ []) first ∙ sym (writes-append xs (x ∷ []) (drop w given)))

pub text_count : (xs : List (List ℕ)) (blocks : List ℕ) (old now : List Write) → now ≡ old ++ writes_to xs blocks → length now ≡ length old + length xs
text_count xs blocks old now is = ap length is ∙ length-append old (writes_to xs blocks) ∙ ap (λ n. length old + n) (length-writes_to xs blocks)

-- a few words take one block
pub one_block : (size n : ℕ) → IsBlockSize size → 0 < n → n ≤ size → blocks_of_size size n ≡ 1
one_block size n h some few =
    let place : n + (size - 1) ≡ 1 * size + (n - 1) = omega (arith, some, few) in
    ap (λ m. m / size) place ∙ div-mul-add 1 size (n - 1) (omega (arith, some, few))

pub map_step : {X : Type 0} (f : ℕ → X) (j : ℕ) (x : X) (old now : List X) → now ≡ old ++ map f (range_with_len 0 j) → x ≡ f j → now ++ x ∷ [] ≡ old ++ map f (range_with_len 0 (j + 1))
map_step f j x old now so_far is =
    ap (λ xs. xs ++ x ∷ []) so_far ∙ append_assoc old (map f (range_with_len 0 j)) (x ∷ []) ∙ ap (λ y. old ++ (map f (range_with_len 0 j) ++ y ∷ [])) is
    ∙ ap (λ xs. old ++ xs) (sym (map-range_with_len_more f 0 j j (omega arith)))

abbrev pub map_write : Super → List ℕ → ℕ → Write
map_write s text j = record { block = map_block s.block s.map j; bytes = block_of s.block text j }

-- writes behind others, and more behind these
pub writes_two : (xs ys : List (List ℕ)) (given : List ℕ) (old now : List Write) → now ≡ old ++ writes_to xs (drop (length old) given) → now ++ writes_to ys (drop (length now) given) ≡ old ++ writes_to (xs ++ ys) (drop (length old) given)
writes_two xs ys given old now so_far =
    let rest = drop (length old) given in
    ap (λ ws. ws ++ writes_to ys (drop (length now) given)) so_far ∙ append_assoc old (writes_to xs rest) (writes_to ys (drop (length now) given))
    ∙ ap (λ ws. old ++ ws) (ap (λ more. writes_to xs rest ++ writes_to ys more) (drop_on (length old) (length now) (length xs) given (text_count xs rest old now so_far)) ∙ sym (writes-append xs ys rest))

pub one_cut : (size : ℕ) (bytes : List ℕ) → blocks_of_size size (length bytes) ≡ 1 → blocks_of size bytes ≡ block_of size bytes 0 ∷ []
one_cut size bytes is = ap (λ n. map (block_of size bytes) (range_with_len 0 n)) is
