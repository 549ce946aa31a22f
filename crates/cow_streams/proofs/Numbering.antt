-- The blocks of parts: their numbers, and what they hold.
use Rattle.std.proofs.Common.{◌≡◌, ◌≤◌, ◌<◌, ◌++◌, ℕ, zero, suc, List, [], ◌∷◌, length, map, drop, get_or, Option, Some, None, refl, sym, ap, ◌∙◌, arith}
use Rattle.std.specs.List.{AllByRecursion, flat_map}
use Rattle.stream_directory.specs.Directory.{blocks_in}
use Rattle.msf_image.specs.Reads.{block_bytes, bytes_of_blocks}
use Rattle.cow_streams.specs.Layout.{Layout, Part, kept, fresh, all_parts, kept_in, laid, laid_one, numbers, parts_in, pieces}
use Rattle.cow_streams.specs.Planned.{Stands, Write, writes_to}

pub drop_next : {X : Type 0} (n : ℕ) (xs : List X) → drop n (drop 1 xs) ≡ drop (suc n) xs
drop_next zero [] = refl
drop_next (suc n) [] = refl
drop_next n (x ∷ xs) = refl

pub numbers-append : (xs ys : List Part) (given : List ℕ) → numbers (xs ++ ys) given ≡ numbers xs given ++ numbers ys (drop (length (pieces xs)) given)
numbers-append [] ys given = refl
numbers-append (kept b ∷ xs) ys given = ap (λ ns. b ∷ ns) (numbers-append xs ys given)
numbers-append (fresh x ∷ xs) ys given =
    ap (λ ns. get_or given 0 0 ∷ ns) (numbers-append xs ys (drop 1 given) ∙ ap (λ more. numbers xs (drop 1 given) ++ numbers ys more) (drop_next (length (pieces xs)) given))

pub pieces-append : (xs ys : List Part) → pieces (xs ++ ys) ≡ pieces xs ++ pieces ys
pieces-append [] ys = refl
pieces-append (kept b ∷ xs) ys = pieces-append xs ys
pieces-append (fresh x ∷ xs) ys = ap (λ ps. x ∷ ps) (pieces-append xs ys)

pub kept_in-append : (xs ys : List Part) → kept_in (xs ++ ys) ≡ kept_in xs ++ kept_in ys
kept_in-append [] ys = refl
kept_in-append (kept b ∷ xs) ys = ap (λ bs. b ∷ bs) (kept_in-append xs ys)
kept_in-append (fresh x ∷ xs) ys = kept_in-append xs ys

pub length-numbers : (parts : List Part) (given : List ℕ) → length (numbers parts given) ≡ length parts
length-numbers [] given = refl
length-numbers (kept b ∷ parts) given = ap (λ n. suc n) (length-numbers parts given)
length-numbers (fresh x ∷ parts) given = ap (λ n. suc n) (length-numbers parts (drop 1 given))

-- only so many of the given blocks count
pub numbers_front : (parts : List Part) (front back : List ℕ) → length (pieces parts) ≤ length front → numbers parts (front ++ back) ≡ numbers parts front
numbers_front [] front back enough = refl
numbers_front (kept b ∷ parts) front back enough = ap (λ ns. b ∷ ns) (numbers_front parts front back enough)
numbers_front (fresh x ∷ parts) [] back enough = absurd (omega (arith, enough))
numbers_front (fresh x ∷ parts) (g ∷ front) back enough = ap (λ ns. g ∷ ns) (numbers_front parts front back (omega (arith, enough)))

-- a part that is kept has its number at its place
pub number_kept : (parts : List Part) (given : List ℕ) (k b : ℕ) (e : Part) → k < length parts → get_or parts k e ≡ kept b → get_or (numbers parts given) k 0 ≡ b
number_kept [] given k b e lt is = absurd (omega (arith, lt))
number_kept (kept c ∷ parts) given zero b e lt is = cc
number_kept (fresh x ∷ parts) given zero b e lt is = absurd cc
number_kept (kept c ∷ parts) given (suc k) b e lt is = number_kept parts given k b e (omega (arith, lt)) is
number_kept (fresh x ∷ parts) given (suc k) b e lt is = number_kept parts (drop 1 given) k b e (omega (arith, lt)) is

-- ---- streams

pub blocks_of_one : (layout : Option Layout) (given : List ℕ) → blocks_in (laid_one layout given) ≡ numbers (parts_in layout) given
blocks_of_one None given = refl
blocks_of_one (Some layout) given = refl

pub blocks_of_laid : (layouts : List (Option Layout)) (given : List ℕ) → flat_map blocks_in (laid layouts given) ≡ numbers (all_parts layouts) given
blocks_of_laid [] given = refl
blocks_of_laid (layout ∷ layouts) given =
    let more = drop (length (pieces (parts_in layout))) given in
    ap (λ bs. bs ++ flat_map blocks_in (laid layouts more)) (blocks_of_one layout given) ∙ ap (λ bs. numbers (parts_in layout) given ++ bs) (blocks_of_laid layouts more)
    ∙ sym (numbers-append (parts_in layout) (all_parts layouts) given)

pub length-laid : (layouts : List (Option Layout)) (given : List ℕ) → length (laid layouts given) ≡ length layouts
length-laid [] given = refl
length-laid (layout ∷ layouts) given = ap (λ n. suc n) (length-laid layouts (drop (length (pieces (parts_in layout))) given))

-- ---- writes

pub writes-append : (xs ys : List (List ℕ)) (blocks : List ℕ) → writes_to (xs ++ ys) blocks ≡ writes_to xs blocks ++ writes_to ys (drop (length xs) blocks)
writes-append [] ys blocks = refl
writes-append (x ∷ xs) ys blocks =
    ap (λ ws. record { block = get_or blocks 0 0; bytes = x } ∷ ws) (writes-append xs ys (drop 1 blocks) ∙ ap (λ more. writes_to xs (drop 1 blocks) ++ writes_to ys more) (drop_next (length xs) blocks))

pub length-writes_to : (xs : List (List ℕ)) (blocks : List ℕ) → length (writes_to xs blocks) ≡ length xs
length-writes_to [] blocks = refl
length-writes_to (x ∷ xs) blocks = ap (λ n. suc n) (length-writes_to xs (drop 1 blocks))

-- only so many blocks count
pub writes_front : (xs : List (List ℕ)) (front back : List ℕ) → length xs ≤ length front → writes_to xs (front ++ back) ≡ writes_to xs front
writes_front [] front back enough = refl
writes_front (x ∷ xs) [] back enough = absurd (omega (arith, enough))
writes_front (x ∷ xs) (g ∷ front) back enough = ap (λ ws. record { block = g; bytes = x } ∷ ws) (writes_front xs front back (omega (arith, enough)))

pub blocks_written : (xs : List (List ℕ)) (blocks : List ℕ) → length xs ≡ length blocks → map (λ (w : Write). w.block) (writes_to xs blocks) ≡ blocks
blocks_written [] [] same = refl
blocks_written [] (b ∷ blocks) same = absurd (omega (arith, same))
blocks_written (x ∷ xs) [] same = absurd (omega (arith, same))
blocks_written (x ∷ xs) (b ∷ blocks) same = ap (λ bs. b ∷ bs) (blocks_written xs blocks (omega (arith, same)))

pub each_write : (P : Write → Type 0) (Q : ℕ → Type 0) (R : List ℕ → Type 0) (xs : List (List ℕ)) (blocks : List ℕ) → length xs ≤ length blocks → ((b : ℕ) (x : List ℕ) → Q b → R x → P (record { block = b; bytes = x }))
    → AllByRecursion Q blocks → AllByRecursion R xs → AllByRecursion P (writes_to xs blocks)
each_write P Q R [] blocks enough on q r = tt
each_write P Q R (x ∷ xs) [] enough on q r = absurd (omega (arith, enough))
each_write P Q R (x ∷ xs) (b ∷ blocks) enough on q r = (on b x q.0 r.0, each_write P Q R xs blocks (omega (arith, enough)) on q.1 r.1)

-- ---- what blocks hold

pub stands_joined : (size : ℕ) (file : List ℕ) (xs : List (List ℕ)) (blocks : List ℕ) → length xs ≡ length blocks → AllByRecursion (Stands size file) (writes_to xs blocks) → bytes_of_blocks size file blocks ≡ flat_map (λ x. x) xs
stands_joined size file [] [] same stand = refl
stands_joined size file [] (b ∷ blocks) same stand = absurd (omega (arith, same))
stands_joined size file (x ∷ xs) [] same stand = absurd (omega (arith, same))
stands_joined size file (x ∷ xs) (b ∷ blocks) same stand =
    ap (λ ys. ys ++ bytes_of_blocks size file blocks) stand.0 ∙ ap (λ ys. x ++ ys) (stands_joined size file xs blocks (omega (arith, same)) stand.1)

-- what a part holds, where the old file had the block that is kept
abbrev pub part_bytes : ℕ → List ℕ → Part → List ℕ
part_bytes size file (kept b) = block_bytes size file b
part_bytes size file (fresh x) = x

pub parts_joined : (size : ℕ) (file other : List ℕ) (parts : List Part) (given : List ℕ) → AllByRecursion (Stands size other) (writes_to (pieces parts) given) → AllByRecursion (λ b. block_bytes size other b ≡ block_bytes size file b) (kept_in parts)
    → bytes_of_blocks size other (numbers parts given) ≡ flat_map (part_bytes size file) parts
parts_joined size file other [] given stand same = refl
parts_joined size file other (kept b ∷ parts) given stand same =
    ap (λ ys. ys ++ bytes_of_blocks size other (numbers parts given)) same.0 ∙ ap (λ ys. block_bytes size file b ++ ys) (parts_joined size file other parts given stand same.1)
parts_joined size file other (fresh x ∷ parts) given stand same =
    ap (λ ys. ys ++ bytes_of_blocks size other (numbers parts (drop 1 given))) stand.0 ∙ ap (λ ys. x ++ ys) (parts_joined size file other parts (drop 1 given) stand.1 same)
