-- The streams of a directory: what is read is spelled so, and what is spelled so is read.
use Rattle.std.proofs.Common.{◌≡◌, ◌≤◌, ◌<◌, ◌+◌, ◌*◌, ◌^◌, ℕ, Bool, true, false, cond, not, eqb, ltb, List, [], ◌∷◌, ◌++◌, Option, Some, None, Result, Ok, Err, length, map, take, drop, get_or, refl, sym, ap, subst, ◌∙◌, inl, inr, lit<, arith}
use Rattle.std.specs.Prelude.{IfOk}
use Rattle.std.specs.Global.{Vec}
use Rattle.std.specs.Option.{option_or}
use Rattle.std.specs.List.{AllByRecursion, flat_map, list_any, sum_by}
use Rattle.std.proofs.lemmas.Bool.{cases_Bool, cases_lt, eqb-true, eqb-false, eq-eqb, ne_eqb, lt-ltb, ltb-true, not-true, not_from_false, false_from_ne_true, both_ways}
use Rattle.std.proofs.lemmas.List.{append-nil, take_all, drop_all, take_at, drop_at, take-append-drop, length-append, length-take, length-drop, length-map, nil_from_length}
use Rattle.std.proofs.lemmas.List.Sums.{sum_by-cons}
use Rattle.byteorder.specs.Endian.{little_bytes, little_number}
use Rattle.msf_blocks.specs.declared.superblock.Super.{Super}
use Rattle.msf_blocks.specs.Blocks.{is_reserved, blocks_of_size}
use Rattle.msf_blocks.specs.Judging.{◌>>=◌, Tells, first_damage, unless}
use Rattle.msf_blocks.proofs.Judging.{bound_ok, is_passed, unless_ok, was_passed}
use Rattle.msf_blocks.proofs.Numbers.{AreBytes, AreBytes-drop, little_bytes-little_number, little_number-little_bytes, little_number-lt}
use Rattle.stream_directory.specs.declared.fault.DirFault.{DirFault}
use Rattle.stream_directory.specs.declared.fault.DirDamage.{DirDamage}
use Rattle.stream_directory.specs.declared.fault.DirDamage.TheVariants.{Extra, ReservedBlock, OutsideFile, BlockTwice}
use Rattle.stream_directory.specs.Directory.{StreamBlocks, absent_size, size_field, blocks_in, block_count, skipped_count, word, numbers_behind, directory_text, Spells, IsSized, IsFirst, AreSized, AreUsable, IsDirectory}
use Rattle.stream_directory.specs.Reading.{words_in, fields_at, parts_of, block_damage, directory_damage, first_bad, stream_of, streams_of, directory_of, reading}
use Rattle.stream_directory.proofs.Counts.{length-directory_of, skipped_and_others}
use Rattle.stream_directory.proofs.Fields.{fields_at-fits, fields_at-short}

abbrev pub IsWord : ℕ → Type 0
IsWord n = n < 2 ^ 32

-- ---- words

words-append : (xs ys : List ℕ) → AllByRecursion IsWord xs → AllByRecursion IsWord ys → AllByRecursion IsWord (xs ++ ys)
words-append [] ys p q = q
words-append (x ∷ xs) ys p q = (p.0, words-append xs ys p.1 q)

words-left : (xs ys : List ℕ) → AllByRecursion IsWord (xs ++ ys) → AllByRecursion IsWord xs
words-left [] ys p = tt
words-left (x ∷ xs) ys p = (p.0, words-left xs ys p.1)

words-right : (xs ys : List ℕ) → AllByRecursion IsWord (xs ++ ys) → AllByRecursion IsWord ys
words-right [] ys p = p
words-right (x ∷ xs) ys p = words-right xs ys p.1

bytes-behind : (a b c d : ℕ) (bytes : List ℕ) → AreBytes (a ∷ b ∷ c ∷ d ∷ bytes) → AreBytes bytes
bytes-behind a b c d bytes h = AreBytes-drop 4 (a ∷ b ∷ c ∷ d ∷ bytes) h

words_in-are_words : (bytes : List ℕ) → AreBytes bytes → AllByRecursion IsWord (words_in bytes)
unfolding words_in
words_in-are_words [] h = tt
words_in-are_words (a ∷ []) h = tt
words_in-are_words (a ∷ b ∷ []) h = tt
words_in-are_words (a ∷ b ∷ c ∷ []) h = tt
words_in-are_words (a ∷ b ∷ c ∷ d ∷ bytes) h = (little_number-lt (a ∷ b ∷ c ∷ d ∷ bytes) h, words_in-are_words bytes (bytes-behind a b c d bytes h))

words_in-le : (bytes : List ℕ) → 4 * length (words_in bytes) ≤ length bytes
unfolding words_in
words_in-le [] = omega arith
words_in-le (a ∷ []) = omega arith
words_in-le (a ∷ b ∷ []) = omega arith
words_in-le (a ∷ b ∷ c ∷ []) = omega arith
words_in-le (a ∷ b ∷ c ∷ d ∷ bytes) = omega (arith, words_in-le bytes)

-- the bytes of the words, where no byte remains
words_in-back : (bytes : List ℕ) → AreBytes bytes → 4 * length (words_in bytes) ≡ length bytes → flat_map word (words_in bytes) ≡ bytes
unfolding words_in
words_in-back [] h e = refl
words_in-back (a ∷ []) h e = absurd (omega (arith, e))
words_in-back (a ∷ b ∷ []) h e = absurd (omega (arith, e))
words_in-back (a ∷ b ∷ c ∷ []) h e = absurd (omega (arith, e))
words_in-back (a ∷ b ∷ c ∷ d ∷ bytes) h e =
    let four : little_bytes 4 (little_number 4 (a ∷ b ∷ c ∷ d ∷ bytes)) ≡ a ∷ b ∷ c ∷ d ∷ [] = little_bytes-little_number (a ∷ b ∷ c ∷ d ∷ bytes) h (omega arith) in
    let rest = words_in-back bytes (bytes-behind a b c d bytes h) (omega (arith, e)) in
    ap (λ xs. xs ++ flat_map word (words_in bytes)) four ∙ ap (λ xs. a ∷ b ∷ c ∷ d ∷ xs) rest

-- the words of the bytes of words
words_in-again : (words : List ℕ) → AllByRecursion IsWord words → words_in (flat_map word words) ≡ words
unfolding words_in
words_in-again [] h = refl
words_in-again (n ∷ words) h = ap (λ k. k ∷ words_in (flat_map word words)) (little_number-little_bytes n [] h.0) ∙ ap (λ ws. n ∷ ws) (words_in-again words h.1)

pub length-words : (words : List ℕ) → length (flat_map word words) ≡ 4 * length words
length-words [] = refl
length-words (n ∷ words) = let h = length-words words in omega (arith, h)

-- ---- the parts of a text

end_ok : {A : Type 0} (b : Bool) (d : DirDamage) (x y : A) → unless (first_damage ((b, d) ∷ [])) x ≡ Ok y → (b ≡ true) × (x ≡ y)
end_ok b d x y e = let is = unless_ok (first_damage ((b, d) ∷ [])) x y e in ((was_passed b d [] is.0).0, is.1)

abbrev done : {A : Type 0} → A → Result A DirDamage
done x = Ok x

ok_is : {A : Type 0} (x y : A) → done x ≡ done y → x ≡ y
ok_is x y e = cc

-- fields that fit are the words in front
fields_at-ok : (at n : ℕ) (words xs rest : List ℕ) → fields_at at n words ≡ Ok (xs, rest) → (words ≡ xs ++ rest) × (length xs ≡ n)
fields_at-ok at n words xs rest e =
    elim (cases_lt (length words) n) [
      | inl short ↦ let no = fields_at-short at n words short in absurd cc
      | inr fits ↦
          let pair : (take n words, drop n words) ≡ (xs, rest) = ok_is (take n words, drop n words) (xs, rest) (sym (fields_at-fits at n words fits) ∙ e) in
          let front : take n words ≡ xs = ap (λ (p : List ℕ × List ℕ). p.0) pair in
          let behind : drop n words ≡ rest = ap (λ (p : List ℕ × List ℕ). p.1) pair in
          (sym (take-append-drop n words) ∙ ap (λ ys. ys ++ drop n words) front ∙ ap (λ ys. xs ++ ys) behind, ap length (sym front) ∙ omega (arith, length-take n words))
    ]

-- what the parts of a text are
record ArePartsOf (block_size : ℕ) (bytes sizes numbers : List ℕ) : Type 0 where
  words : words_in bytes ≡ length sizes ∷ (sizes ++ numbers)
  count : length numbers ≡ sum_by (block_count block_size) sizes
  whole : 4 * length (words_in bytes) ≡ length bytes

one_word : (xs : List ℕ) → length xs ≡ 1 → xs ≡ get_or xs 0 0 ∷ []
one_word [] e = absurd (omega (arith, e))
one_word (x ∷ []) e = refl
one_word (x ∷ y ∷ xs) e = absurd (omega (arith, e))

-- the steps of reading the parts
abbrev ended : List ℕ → List ℕ → List ℕ → Result (List ℕ × List ℕ) DirDamage
ended bytes sizes numbers =
    let end = 4 + 4 * length sizes + 4 * length numbers in unless (first_damage ((eqb end (length bytes), Extra end) ∷ [])) (sizes, numbers)

abbrev behind_sizes : ℕ → List ℕ → List ℕ × List ℕ → Result (List ℕ × List ℕ) DirDamage
behind_sizes block_size bytes sizes =
    fields_at (4 + 4 * length sizes.0) (sum_by (block_count block_size) sizes.0) sizes.1 >>= λ numbers. ended bytes sizes.0 numbers.0

abbrev behind_count : ℕ → List ℕ → List ℕ × List ℕ → Result (List ℕ × List ℕ) DirDamage
behind_count block_size bytes count = fields_at 4 (get_or count.0 0 0) count.1 >>= behind_sizes block_size bytes

parts_are : (block_size : ℕ) (bytes : List ℕ) (parts : List ℕ × List ℕ) → parts_of block_size bytes ≡ Ok parts → ArePartsOf block_size bytes parts.0 parts.1
unfolding parts_of
parts_are block_size bytes parts e =
    let counts = block_count block_size in
    let a = bound_ok (fields_at 0 1 (words_in bytes)) (behind_count block_size bytes) parts e in
    let b = bound_ok (fields_at 4 (get_or a.0.0 0 0) a.0.1) (behind_sizes block_size bytes) parts a.2 in
    let c = bound_ok (fields_at (4 + 4 * length b.0.0) (sum_by counts b.0.0) b.0.1) (λ numbers. ended bytes b.0.0 numbers.0) parts b.2 in
    let end = 4 + 4 * length b.0.0 + 4 * length c.0.0 in
    let g = end_ok (eqb end (length bytes)) (Extra end) (b.0.0, c.0.0) parts c.2 in
    let f1 = fields_at-ok 0 1 (words_in bytes) a.0.0 a.0.1 a.1 in
    let f2 = fields_at-ok 4 (get_or a.0.0 0 0) a.0.1 b.0.0 b.0.1 b.1 in
    let f3 = fields_at-ok (4 + 4 * length b.0.0) (sum_by counts b.0.0) b.0.1 c.0.0 c.0.1 c.1 in
    let whole : end ≡ length bytes = eqb-true end (length bytes) g.0 in
    let most = words_in-le bytes in
    let n1 = ap length f1.0 ∙ length-append a.0.0 a.0.1 in
    let n2 = ap length f2.0 ∙ length-append b.0.0 b.0.1 in
    let n3 = ap length f3.0 ∙ length-append c.0.0 c.0.1 in
    let none : length c.0.1 ≡ 0 = omega (arith, whole, most, n1, n2, n3, f1.1) in
    let last : c.0.1 ≡ [] = nil_from_length c.0.1 none in
    let count : a.0.0 ≡ length b.0.0 ∷ [] = one_word a.0.0 f1.1 ∙ ap (λ n. n ∷ []) (sym f2.1) in
    let rest : a.0.1 ≡ b.0.0 ++ c.0.0 = f2.0 ∙ ap (λ xs. b.0.0 ++ xs) (f3.0 ∙ ap (λ xs. c.0.0 ++ xs) last ∙ append-nil c.0.0) in
    let words : words_in bytes ≡ length b.0.0 ∷ (b.0.0 ++ c.0.0) = f1.0 ∙ ap (λ xs. xs ++ a.0.1) count ∙ ap (λ xs. length b.0.0 ∷ xs) rest in
    subst (λ (p : List ℕ × List ℕ). ArePartsOf block_size bytes p.0 p.1) g.1
    (record { words = words; count = f3.1; whole = omega (arith, whole, n1, n2, n3, none, f1.1) })

-- a text of words is read in its parts
parts_again : (block_size : ℕ) (bytes sizes numbers : List ℕ) → bytes ≡ flat_map word (length sizes ∷ (sizes ++ numbers)) → AllByRecursion IsWord (length sizes ∷ (sizes ++ numbers))
    → length numbers ≡ sum_by (block_count block_size) sizes → parts_of block_size bytes ≡ Ok (sizes, numbers)
unfolding parts_of
parts_again block_size bytes sizes numbers text are count =
    let counts = block_count block_size in
    let all = length sizes ∷ (sizes ++ numbers) in
    let words : words_in bytes ≡ all = ap words_in text ∙ words_in-again all are in
    let len : length bytes ≡ 4 * length all = ap length text ∙ length-words all in
    let one : fields_at 0 1 (words_in bytes) ≡ Ok (length sizes ∷ [], sizes ++ numbers) = ap (fields_at 0 1) words ∙ fields_at-fits 0 1 all (omega arith) in
    let two : fields_at 4 (length sizes) (sizes ++ numbers) ≡ Ok (sizes, numbers) =
    fields_at-fits 4 (length sizes) (sizes ++ numbers) (omega (arith, length-append sizes numbers)) ∙ ap (λ xs. Ok (xs, drop (length sizes) (sizes ++ numbers))) (take_at sizes numbers (length sizes) refl)
    ∙ ap (λ xs. Ok (sizes, xs)) (drop_at sizes numbers (length sizes) refl) in
    let three : fields_at (4 + 4 * length sizes) (sum_by counts sizes) numbers ≡ Ok (numbers, []) =
    fields_at-fits (4 + 4 * length sizes) (sum_by counts sizes) numbers (omega (arith, count)) ∙ ap (λ xs. Ok (xs, drop (sum_by counts sizes) numbers)) (take_all (sum_by counts sizes) numbers (omega (arith, count)))
    ∙ ap (λ xs. Ok (numbers, xs)) (drop_all (sum_by counts sizes) numbers (omega (arith, count))) in
    let end : eqb (4 + 4 * length sizes + 4 * length numbers) (length bytes) ≡ true = eq-eqb (4 + 4 * length sizes + 4 * length numbers) (length bytes) (omega (arith, len, length-append sizes numbers)) in
    ap (λ r. r >>= behind_count block_size bytes) one ∙ ap (λ r. r >>= behind_sizes block_size bytes) two ∙ ap (λ r. r >>= λ numbers. ended bytes sizes numbers.0) three
    ∙ ap (λ t. unless (cond t None (Some (Extra (4 + 4 * length sizes + 4 * length numbers)))) (sizes, numbers)) end

-- ---- streams of sizes and blocks

size_field-stream_of : (size : ℕ) (blocks : List ℕ) → size_field (stream_of size blocks) ≡ size
size_field-stream_of size blocks =
    elim (cases_Bool (eqb size absent_size)) [
      | inl absent ↦ ap (λ t. size_field (cond t None (Some (record { size = size; blocks = blocks })))) absent ∙ sym (eqb-true size absent_size absent)
      | inr present ↦ ap (λ t. size_field (cond t None (Some (record { size = size; blocks = blocks })))) present
    ]

blocks_in-stream_of : (block_size size : ℕ) (blocks : List ℕ) → length blocks ≡ block_count block_size size → blocks_in (stream_of size blocks) ≡ blocks
blocks_in-stream_of block_size size blocks len =
    elim (cases_Bool (eqb size absent_size)) [
      | inl absent ↦
          let none = len ∙ ap (λ t. cond t 0 (blocks_of_size block_size size)) absent in
          ap (λ t. blocks_in (cond t None (Some (record { size = size; blocks = blocks })))) absent ∙ sym (nil_from_length blocks none)
      | inr present ↦ ap (λ t. blocks_in (cond t None (Some (record { size = size; blocks = blocks })))) present
    ]

below_absent : (size : ℕ) → IsWord size → eqb size absent_size ≡ false → size < absent_size
below_absent size word e = let ne = eqb-false size absent_size e in omega (arith, word, ne)

IsSized-stream_of : (block_size size : ℕ) (blocks : List ℕ) → IsWord size → length blocks ≡ block_count block_size size → IsSized block_size (stream_of size blocks)
IsSized-stream_of block_size size blocks word len =
    elim (cases_Bool (eqb size absent_size)) [
      | inl absent ↦ subst (λ t. IsSized block_size (cond t None (Some (record { size = size; blocks = blocks })))) (sym absent) tt
      | inr present ↦
          subst (λ t. IsSized block_size (cond t None (Some (record { size = size; blocks = blocks })))) (sym present)
          (below_absent size word present, len ∙ ap (λ t. cond t 0 (blocks_of_size block_size size)) present)
    ]

IsFirst-stream_of : (size : ℕ) → IsWord size → IsFirst (stream_of size [])
IsFirst-stream_of size word =
    elim (cases_Bool (eqb size absent_size)) [
      | inl absent ↦ subst (λ t. IsFirst (cond t None (Some (record { size = size; blocks = [] })))) (sym absent) tt
      | inr present ↦ subst (λ t. IsFirst (cond t None (Some (record { size = size; blocks = [] })))) (sym present) (below_absent size word present, refl)
    ]

-- streams that were put together from their sizes and all their blocks
record ArePut (block_size : ℕ) (sizes numbers : List ℕ) (streams : List (Option StreamBlocks)) : Type 0 where
  sizes_are : map size_field streams ≡ sizes
  blocks_are : flat_map blocks_in streams ≡ numbers
  sized : AllByRecursion (IsSized block_size) streams

streams_of-are : (block_size : ℕ) (sizes numbers : List ℕ) → AllByRecursion IsWord sizes → length numbers ≡ sum_by (block_count block_size) sizes → ArePut block_size sizes numbers (streams_of block_size sizes numbers)
streams_of-are block_size [] numbers words len = record { sizes_are = refl; blocks_are = sym (nil_from_length numbers len); sized = tt }
streams_of-are block_size (size ∷ sizes) numbers words len =
    let n = block_count block_size size in
    let sum = sum_by-cons (block_count block_size) size sizes in
    let front : length (take n numbers) ≡ n = omega (arith, length-take n numbers, len, sum) in
    let others = streams_of-are block_size sizes (drop n numbers) words.1 (omega (arith, length-drop n numbers, len, sum)) in
    record {
      sizes_are = ap (λ k. k ∷ map size_field (streams_of block_size sizes (drop n numbers))) (size_field-stream_of size (take n numbers)) ∙ ap (λ ks. size ∷ ks) others.sizes_are;
      blocks_are = ap (λ xs. xs ++ flat_map blocks_in (streams_of block_size sizes (drop n numbers))) (blocks_in-stream_of block_size size (take n numbers) front)
          ∙ ap (λ xs. take n numbers ++ xs) others.blocks_are ∙ take-append-drop n numbers;
      sized = (IsSized-stream_of block_size size (take n numbers) words.0 front, others.sized);
    }

-- a directory that was put together, stream 0 without its blocks
record IsPut (block_size : ℕ) (sizes kept : List ℕ) (streams : List (Option StreamBlocks)) : Type 0 where
  sizes_are : map size_field streams ≡ sizes
  blocks_are : flat_map blocks_in streams ≡ kept
  sized : AreSized block_size streams

no_blocks : (size : ℕ) → blocks_in (stream_of size []) ≡ []
no_blocks size =
    elim (cases_Bool (eqb size absent_size)) [
      | inl absent ↦ ap (λ t. blocks_in (cond t None (Some (record { size = size; blocks = [] })))) absent
      | inr present ↦ ap (λ t. blocks_in (cond t None (Some (record { size = size; blocks = [] })))) present
    ]

directory_of-is : (block_size : ℕ) (sizes kept : List ℕ) → AllByRecursion IsWord sizes → length kept ≡ sum_by (block_count block_size) (drop 1 sizes) → IsPut block_size sizes kept (directory_of block_size sizes kept)
directory_of-is block_size [] kept words len = record { sizes_are = refl; blocks_are = sym (nil_from_length kept len); sized = tt }
directory_of-is block_size (size ∷ sizes) kept words len =
    let others = streams_of-are block_size sizes kept words.1 len in
    record {
      sizes_are = ap (λ k. k ∷ map size_field (streams_of block_size sizes kept)) (size_field-stream_of size []) ∙ ap (λ ks. size ∷ ks) others.sizes_are;
      blocks_are = ap (λ xs. xs ++ flat_map blocks_in (streams_of block_size sizes kept)) (no_blocks size) ∙ others.blocks_are;
      sized = (IsFirst-stream_of size words.0, others.sized);
    }

-- ---- blocks that may be used

no_damage : (first other : Option DirDamage) → option_or first other ≡ None → (first ≡ None) × (other ≡ None)
no_damage None other e = (refl, e)
no_damage (Some damage) other e = absurd cc

-- a block without damage
usable_block : (s : Super) (is_used : Bool) (b : ℕ) → block_damage s is_used b ≡ None → (is_reserved s.block b ≡ false) × (b < s.blocks) × (is_used ≡ false)
usable_block s is_used b e =
    let t3 : List (Bool × DirDamage) = (not is_used, BlockTwice b) ∷ [] in
    let t2 : List (Bool × DirDamage) = (ltb b s.blocks, OutsideFile b) ∷ t3 in
    let free = was_passed (not (is_reserved s.block b)) (ReservedBlock b) t2 e in
    let inside = was_passed (ltb b s.blocks) (OutsideFile b) t3 free.1 in
    let once = was_passed (not is_used) (BlockTwice b) [] inside.1 in
    (not-true (is_reserved s.block b) free.0, ltb-true b s.blocks inside.0, not-true is_used once.0)

block_without_damage : (s : Super) (is_used : Bool) (b : ℕ) → is_reserved s.block b ≡ false → b < s.blocks → is_used ≡ false → block_damage s is_used b ≡ None
block_without_damage s is_used b free inside once =
    let t3 : List (Bool × DirDamage) = (not is_used, BlockTwice b) ∷ [] in
    let t2 : List (Bool × DirDamage) = (ltb b s.blocks, OutsideFile b) ∷ t3 in
    is_passed (not (is_reserved s.block b)) (ReservedBlock b) t2 (not_from_false (is_reserved s.block b) free)
    (is_passed (ltb b s.blocks) (OutsideFile b) t3 (lt-ltb b s.blocks inside) (is_passed (not is_used) (BlockTwice b) [] (not_from_false is_used once) refl))

pub usable_from_none : (s : Super) (earlier blocks : List ℕ) → first_bad s earlier blocks ≡ None → AreUsable s earlier blocks
unfolding first_bad
usable_from_none s earlier [] e = tt
usable_from_none s earlier (b ∷ blocks) e =
    let is_used = list_any (λ x. eqb x b) earlier in
    let parts = no_damage (block_damage s is_used b) (first_bad s (earlier ++ b ∷ []) blocks) e in
    let block = usable_block s is_used b parts.0 in
    (λ h. both_ways (is_reserved s.block b) block.0 h, block.1, block.2, usable_from_none s (earlier ++ b ∷ []) blocks parts.1)

pub none_from_usable : (s : Super) (earlier blocks : List ℕ) → AreUsable s earlier blocks → first_bad s earlier blocks ≡ None
unfolding first_bad
none_from_usable s earlier [] u = refl
none_from_usable s earlier (b ∷ blocks) u =
    let is_used = list_any (λ x. eqb x b) earlier in
    let none = block_without_damage s is_used b (false_from_ne_true (is_reserved s.block b) u.0) u.1 u.2 in
    ap (λ f. option_or f (first_bad s (earlier ++ b ∷ []) blocks)) none ∙ none_from_usable s (earlier ++ b ∷ []) blocks u.3

usable_are_words : (s : Super) (earlier blocks : List ℕ) → s.blocks < 2 ^ 32 → AreUsable s earlier blocks → AllByRecursion IsWord blocks
usable_are_words s earlier [] fit u = tt
usable_are_words s earlier (b ∷ blocks) fit u = (omega (arith, fit, u.1), usable_are_words s (earlier ++ b ∷ []) blocks fit u.3)

-- ---- the two laws

-- what is read
pub record IsRead (s : Super) (earlier bytes : List ℕ) (streams : List (Option StreamBlocks)) : Type 0 where
  pub directory : IsDirectory s earlier streams
  pub spelled : Spells s.block bytes streams

pub read_is : (s : Super) (earlier bytes : List ℕ) (streams : List (Option StreamBlocks)) → AreBytes bytes → reading s earlier bytes ≡ Ok streams → IsRead s earlier bytes streams
unfolding reading
read_is s earlier bytes streams fits e =
    let skip = λ (sizes : List ℕ). skipped_count s.block sizes in
    let a = bound_ok (parts_of s.block bytes) (λ parts. let kept = drop (skip parts.0) parts.1 in unless (first_bad s earlier kept) (directory_of s.block parts.0 kept)) streams e in
    let sizes = a.0.0 in
    let numbers = a.0.1 in
    let kept = drop (skip sizes) numbers in
    let u = unless_ok (first_bad s earlier kept) (directory_of s.block sizes kept) streams a.2 in
    let p = parts_are s.block bytes a.0 a.1 in
    let all = subst (AllByRecursion IsWord) p.words (words_in-are_words bytes fits) in
    let sum = skipped_and_others s.block sizes in
    let size_words = words-left sizes numbers all.1 in
    let number_words = words-right sizes numbers all.1 in
    let d = directory_of-is s.block sizes kept size_words (omega (arith, length-drop (skip sizes) numbers, p.count, sum)) in
    let made = directory_of s.block sizes kept in
    let len : length made ≡ length sizes = length-directory_of s.block sizes kept in
    let behind : flat_map word (length sizes ∷ (sizes ++ numbers)) ≡ flat_map word (numbers_behind (take (skip sizes) numbers) made) =
    ap (λ n. flat_map word (n ∷ (sizes ++ numbers))) (sym len) ∙ ap (λ xs. flat_map word (length made ∷ (xs ++ numbers))) (sym d.sizes_are)
    ∙ ap (λ xs. flat_map word (length made ∷ (map size_field made ++ xs))) (sym (take-append-drop (skip sizes) numbers))
    ∙ ap (λ xs. flat_map word (length made ∷ (map size_field made ++ (take (skip sizes) numbers ++ xs)))) (sym d.blocks_are) in
    let text : bytes ≡ flat_map word (numbers_behind (take (skip sizes) numbers) made) = sym (words_in-back bytes fits p.whole) ∙ ap (flat_map word) p.words ∙ behind in
    let usable = subst (AreUsable s earlier) (sym d.blocks_are) (usable_from_none s earlier kept u.0) in
    let skipped_words = words-left (take (skip sizes) numbers) (drop (skip sizes) numbers) (subst (AllByRecursion IsWord) (sym (take-append-drop (skip sizes) numbers)) number_words) in
    let skipped_len : length (take (skip sizes) numbers) ≡ skipped_count s.block (map size_field made) =
    omega (arith, length-take (skip sizes) numbers, p.count, sum) ∙ ap (skipped_count s.block) (sym d.sizes_are) in
    subst (IsRead s earlier bytes) u.1
    (record {
      directory = record { few = omega (arith, len, all.0); sized = d.sized; usable = usable };
      spelled = record { skipped = take (skip sizes) numbers; words = skipped_words; count = skipped_len; text = text };
    })

-- an answer that read streams
pub on_read : (s : Super) (earlier bytes : List ℕ) (r : Result (List (Option StreamBlocks)) DirFault) (P : List (Option StreamBlocks) → Type 0) → AreBytes bytes → Tells directory_damage (λ d. d) r (reading s earlier bytes)
    → ((streams : List (Option StreamBlocks)) → IsRead s earlier bytes streams → P streams) → IfOk r P
on_read s earlier bytes (Ok streams) P fits g gives = gives streams (read_is s earlier bytes streams fits g)
on_read s earlier bytes (Err fault) P fits g gives = tt

-- a stream that is spelled
size_word : (block_size : ℕ) (x : Option StreamBlocks) → IsSized block_size x → IsWord (size_field x)
size_word block_size None h = lit< tt
size_word block_size (Some stream) h = omega (arith, h.0)

count_of : (block_size : ℕ) (x : Option StreamBlocks) → IsSized block_size x → block_count block_size (size_field x) ≡ length (blocks_in x)
count_of block_size None h = refl
count_of block_size (Some stream) h =
    ap (λ t. cond t 0 (blocks_of_size block_size stream.size)) (ne_eqb stream.size absent_size (λ e. omega (arith, e, h.0))) ∙ sym h.1

stream_again : (block_size : ℕ) (x : Option StreamBlocks) → IsSized block_size x → stream_of (size_field x) (blocks_in x) ≡ x
stream_again block_size None h = refl
stream_again block_size (Some stream) h = ap (λ t. cond t None (Some stream)) (ne_eqb stream.size absent_size (λ e. omega (arith, e, h.0)))

first_word : (x : Option StreamBlocks) → IsFirst x → IsWord (size_field x)
first_word None h = lit< tt
first_word (Some stream) h = omega (arith, h.0)

first_again : (x : Option StreamBlocks) → IsFirst x → (stream_of (size_field x) [] ≡ x) × (blocks_in x ≡ [])
first_again None h = (refl, refl)
first_again (Some stream) h =
    let present = ne_eqb stream.size absent_size (λ e. omega (arith, e, h.0)) in
    (ap (λ t. cond t None (Some (record { size = stream.size; blocks = [] }))) present ∙ ap (λ blocks. Some (record { size = stream.size; blocks = blocks })) (sym h.1), h.1)

-- streams with their blocks
record AreAgain (block_size : ℕ) (streams : List (Option StreamBlocks)) : Type 0 where
  words : AllByRecursion IsWord (map size_field streams)
  count : sum_by (block_count block_size) (map size_field streams) ≡ length (flat_map blocks_in streams)
  again : streams_of block_size (map size_field streams) (flat_map blocks_in streams) ≡ streams

are_again : (block_size : ℕ) (streams : List (Option StreamBlocks)) → AllByRecursion (IsSized block_size) streams → AreAgain block_size streams
are_again block_size [] h = record { words = tt; count = refl; again = refl }
are_again block_size (x ∷ streams) h =
    let others = are_again block_size streams h.1 in
    let n = count_of block_size x h.0 in
    let rest = flat_map blocks_in streams in
    record {
      words = (size_word block_size x h.0, others.words);
      count = omega (arith, sum_by-cons (block_count block_size) (size_field x) (map size_field streams), n, others.count, length-append (blocks_in x) rest);
      again = ap (λ xs. stream_of (size_field x) xs ∷ streams_of block_size (map size_field streams) (drop (block_count block_size (size_field x)) (blocks_in x ++ rest)))
          (take_at (blocks_in x) rest (block_count block_size (size_field x)) (sym n))
          ∙ ap (λ xs. stream_of (size_field x) (blocks_in x) ∷ streams_of block_size (map size_field streams) xs) (drop_at (blocks_in x) rest (block_count block_size (size_field x)) (sym n))
          ∙ ap (λ y. y ∷ streams_of block_size (map size_field streams) rest) (stream_again block_size x h.0) ∙ ap (λ ys. x ∷ ys) others.again;
    }

-- a directory, stream 0 without its blocks
record IsAgain (block_size : ℕ) (streams : List (Option StreamBlocks)) : Type 0 where
  words : AllByRecursion IsWord (map size_field streams)
  count : sum_by (block_count block_size) (map size_field streams) ≡ skipped_count block_size (map size_field streams) + length (flat_map blocks_in streams)
  again : directory_of block_size (map size_field streams) (flat_map blocks_in streams) ≡ streams

is_again : (block_size : ℕ) (streams : List (Option StreamBlocks)) → AreSized block_size streams → IsAgain block_size streams
is_again block_size [] h = record { words = tt; count = refl; again = refl }
is_again block_size (x ∷ streams) h =
    let others = are_again block_size streams h.1 in
    let first = first_again x h.0 in
    let rest = flat_map blocks_in streams in
    let none : length (blocks_in x) ≡ 0 = ap length first.1 in
    record {
      words = (first_word x h.0, others.words);
      count = omega (arith, sum_by-cons (block_count block_size) (size_field x) (map size_field streams), others.count, length-append (blocks_in x) rest, none);
      again = ap (λ xs. stream_of (size_field x) [] ∷ streams_of block_size (map size_field streams) (xs ++ rest)) first.1
          ∙ ap (λ y. y ∷ streams_of block_size (map size_field streams) rest) first.0 ∙ ap (λ ys. x ∷ ys) others.again;
    }

pub reading_again : (s : Super) (earlier bytes : List ℕ) (streams : List (Option StreamBlocks)) → s.blocks < 2 ^ 32 → IsDirectory s earlier streams → Spells s.block bytes streams → reading s earlier bytes ≡ Ok streams
unfolding reading
reading_again s earlier bytes streams fit is spelled =
    let sizes = map size_field streams in
    let blocks = flat_map blocks_in streams in
    let skipped = spelled.skipped in
    let h = is_again s.block streams is.sized in
    let len : length sizes ≡ length streams = length-map streams size_field in
    let text : bytes ≡ flat_map word (length sizes ∷ (sizes ++ (skipped ++ blocks))) = spelled.text ∙ ap (λ n. flat_map word (n ∷ (sizes ++ (skipped ++ blocks)))) (sym len) in
    let few : IsWord (length sizes) = omega (arith, len, is.few) in
    let words : AllByRecursion IsWord (length sizes ∷ (sizes ++ (skipped ++ blocks))) =
    (few, words-append sizes (skipped ++ blocks) h.words (words-append skipped blocks spelled.words (usable_are_words s earlier blocks fit is.usable))) in
    let parts = parts_again s.block bytes sizes (skipped ++ blocks) text words (omega (arith, length-append skipped blocks, spelled.count, h.count)) in
    let kept : drop (skipped_count s.block sizes) (skipped ++ blocks) ≡ blocks = drop_at skipped blocks (skipped_count s.block sizes) spelled.count in
    ap (λ r. r >>= λ parts. let kept = drop (skipped_count s.block parts.0) parts.1 in unless (first_bad s earlier kept) (directory_of s.block parts.0 kept)) parts
    ∙ ap (λ kept. unless (first_bad s earlier kept) (directory_of s.block sizes kept)) kept
    ∙ ap (λ f. unless f (directory_of s.block sizes blocks)) (none_from_usable s earlier blocks is.usable) ∙ ap (λ d. Ok d) h.again

-- a text that was written
pub length-directory_text : (streams : List (Option StreamBlocks)) → length (directory_text streams) ≡ 4 + 4 * length streams + 4 * length (flat_map blocks_in streams)
unfolding directory_text
length-directory_text streams =
    omega (arith, length-words (numbers_behind [] streams), length-append (map size_field streams) (flat_map blocks_in streams), length-map streams size_field)

pub Spells-directory_text : (block_size : ℕ) (streams : List (Option StreamBlocks)) (text : List ℕ) → skipped_count block_size (map size_field streams) ≡ 0 → text ≡ directory_text streams → Spells block_size text streams
unfolding directory_text
Spells-directory_text block_size streams text none is = record { skipped = []; words = tt; count = sym none; text = is }

-- an answer that wrote a text
pub on_written : {E : Type 0} (streams : List (Option StreamBlocks)) (r : Result (Vec ℕ) E) (P : List ℕ → Type 0) → IfOk r (λ text. text.items ≡ directory_text streams) → P (directory_text streams) → IfOk r (λ text. P text.items)
on_written streams (Ok text) P is p = subst P (sym is) p
on_written streams (Err e) P is p = tt
