-- Blocks that may be used together: the new ones, and old ones of which some are left out.
use Rattle.std.proofs.Common.{◌≡◌, ◌≤◌, ◌<◌, ◌+◌, ◌*◌, ◌++◌, ◌⊎◌, ◌||◌, ℕ, zero, suc, false, List, [], ◌∷◌, length, map, drop, get_or, Option, Some, None, refl, sym, ap, subst, ◌∙◌, inl, inr, eqb, arith}
use Rattle.std.specs.List.{AllByRecursion, flat_map, list_any, range_with_len}
use Rattle.std.proofs.lemmas.Bool.{both_ways, eq-eqb, or_parts}
use Rattle.std.proofs.lemmas.List.{get_or-drop, length-drop}
use Rattle.std.proofs.lemmas.List.Folds.{list_any-append}
use Rattle.msf_blocks.specs.declared.superblock.Super.{Super}
use Rattle.msf_blocks.specs.Blocks.{IsBlockSize, IsReserved, blocks_of_size}
use Rattle.msf_blocks.specs.Edit.{StreamEdit}
use Rattle.msf_blocks.proofs.Sizes.{sized}
use Rattle.stream_directory.specs.Directory.{AreUsable, IsSized, StreamBlocks, blocks_in}
use Rattle.cow_streams.specs.Edits.{IsCovered, edit_at, len_after}
use Rattle.cow_streams.specs.Layout.{Part, kept, fresh, all_parts, kept_in, layout_of, layouts_from, numbers, part_at, part_by, parts_in, pieces}
use Rattle.cow_streams.proofs.Contents.{below_count, block_begins, covered_inside}
use Rattle.cow_streams.proofs.Lists.{Across, Distinct, Misses, across_head, any_pop, any_push, each_both, each_weaker}
use Rattle.cow_streams.proofs.Numbering.{kept_in-append}

-- ---- blocks that may be used behind earlier ones

abbrev pub Usable : Super → List ℕ → ℕ → Type 0
Usable s earlier b = (¬ IsReserved s.block b) × (b < s.blocks) × (list_any (λ x. eqb x b) earlier ≡ false)

pub each_push : (s : Super) (earlier ys : List ℕ) (b : ℕ) → AllByRecursion (Usable s earlier) ys → Misses ys b → AllByRecursion (Usable s (earlier ++ b ∷ [])) ys
each_push s earlier ys b each misses =
    each_both (Usable s earlier) (λ y. y ≡ b → ⊥) (Usable s (earlier ++ b ∷ [])) ys (λ y is other. (is.0, is.1, any_push earlier b y is.2 (λ same. other (sym same)))) each misses

pub usable_from : (s : Super) (earlier xs : List ℕ) → AllByRecursion (Usable s earlier) xs → Distinct xs → AreUsable s earlier xs
usable_from s earlier [] each once = tt
usable_from s earlier (b ∷ xs) each once = (each.0.0, each.0.1, each.0.2, usable_from s (earlier ++ b ∷ []) xs (each_push s earlier xs b each.1 once.0) once.1)

last_other : (xs : List ℕ) (b y : ℕ) → list_any (λ x. eqb x y) (xs ++ b ∷ []) ≡ false → y ≡ b → ⊥
last_other xs b y none same =
    let parts = or_parts (list_any (λ x. eqb x y) xs) (eqb b y || false) (sym (list_any-append (λ x. eqb x y) xs (b ∷ [])) ∙ none) in
    both_ways (eqb b y) (or_parts (eqb b y) false parts.1).0 (eq-eqb b y (sym same))

pub usable_each : (s : Super) (earlier xs : List ℕ) → AreUsable s earlier xs → AllByRecursion (Usable s earlier) xs × Distinct xs
usable_each s earlier [] are = (tt, tt)
usable_each s earlier (b ∷ xs) are =
    let rest = usable_each s (earlier ++ b ∷ []) xs are.3 in
    let Behind = Usable s (earlier ++ b ∷ []) in (
      ((are.0, are.1, are.2), each_weaker Behind (Usable s earlier) xs (λ y is. (is.0, is.1, any_pop earlier b y is.2)) rest.0),
      (each_weaker Behind (λ y. y ≡ b → ⊥) xs (λ y is. last_other earlier b y is.2) rest.0, rest.1),
    )

-- new numbers and old ones, of which none is in both
pub numbers_usable : (s : Super) (earlier : List ℕ) (parts : List Part) (given : List ℕ) → AllByRecursion (Usable s earlier) given → Distinct given → AllByRecursion (Usable s earlier) (kept_in parts) → Distinct (kept_in parts)
    → Across given (kept_in parts) → length (pieces parts) ≤ length given → AreUsable s earlier (numbers parts given)
numbers_usable s earlier [] given each once olds old_once across enough = tt
numbers_usable s earlier (kept b ∷ parts) given each once olds old_once across enough =
    (olds.0.0, olds.0.1, olds.0.2, numbers_usable s (earlier ++ b ∷ []) parts given (each_push s earlier given b each across.0) once (each_push s earlier (kept_in parts) b olds.1 old_once.0) old_once.1 across.1 enough)
numbers_usable s earlier (fresh x ∷ parts) [] each once olds old_once across enough = absurd (omega (arith, enough))
numbers_usable s earlier (fresh x ∷ parts) (g ∷ given) each once olds old_once across enough =
    let apart = across_head g given (kept_in parts) across in
    (each.0.0, each.0.1, each.0.2, numbers_usable s (earlier ++ g ∷ []) parts given (each_push s earlier given g each.1 once.0) once.1 (each_push s earlier (kept_in parts) g olds apart.0) old_once apart.1 (omega (arith, enough)))

-- ---- a list with elements left out

abbrev pub Sub : List ℕ → List ℕ → Type 0
Sub xs [] = xs ≡ []
Sub xs (y ∷ ys) = Sub xs ys ⊎ ((rest : List ℕ) × (xs ≡ y ∷ rest) × Sub rest ys)

pub sub_each : (P : ℕ → Type 0) (xs ys : List ℕ) → Sub xs ys → AllByRecursion P ys → AllByRecursion P xs
sub_each P xs [] sub each = subst (AllByRecursion P) (sym sub) tt
sub_each P xs (y ∷ ys) sub each =
    elim sub [ inl less ↦ sub_each P xs ys less each.1 | inr here ↦ subst (AllByRecursion P) (sym here.1) (each.0, sub_each P here.0 ys here.2 each.1) ]

pub sub_distinct : (xs ys : List ℕ) → Sub xs ys → Distinct ys → Distinct xs
sub_distinct xs [] sub once = subst Distinct (sym sub) tt
sub_distinct xs (y ∷ ys) sub once =
    elim sub [
      | inl less ↦ sub_distinct xs ys less once.1
      | inr here ↦ subst Distinct (sym here.1) (sub_each (λ x. x ≡ y → ⊥) here.0 ys here.2 once.0, sub_distinct here.0 ys here.2 once.1)
    ]

pub sub_none : (ys : List ℕ) → Sub [] ys
sub_none [] = refl
sub_none (y ∷ ys) = inl (sub_none ys)

pub sub_append : (a b c d : List ℕ) → Sub a b → Sub c d → Sub (a ++ c) (b ++ d)
sub_append a [] c d one two = subst (λ xs. Sub (xs ++ c) d) (sym one) two
sub_append a (y ∷ b) c d one two =
    elim one [ inl less ↦ inl (sub_append a b c d less two) | inr here ↦ inr (here.0 ++ c, ap (λ xs. xs ++ c) here.1, sub_append here.0 b c d here.2 two) ]

-- ---- the old blocks that are kept

step : (p : Part) (parts : List Part) (old : List ℕ) → ((b : ℕ) → p ≡ kept b → (0 < length old) × (get_or old 0 0 ≡ b)) → Sub (kept_in parts) (drop 1 old) → Sub (kept_in (p ∷ parts)) old
step (fresh x) parts [] is rest = rest
step (fresh x) parts (o ∷ old) is rest = inl rest
step (kept b) parts [] is rest = let at = is b refl in absurd (omega (arith, at.0))
step (kept b) parts (o ∷ old) is rest = let at = is b refl in inr (kept_in parts, ap (λ y. y ∷ kept_in parts) (sym at.1), rest)

kept_sub : (f : ℕ → Part) (a n : ℕ) (old : List ℕ) → ((k b : ℕ) → k < n → f (a + k) ≡ kept b → (k < length old) × (get_or old k 0 ≡ b)) → Sub (kept_in (map f (range_with_len a n))) old
kept_sub f a zero old is = sub_none old
kept_sub f a (suc n) old is =
    step (f a) (map f (range_with_len (a + 1) n)) old (λ b here. let same : a + 0 ≡ a = omega arith in is 0 b (omega arith) (ap f same ∙ here))
    (kept_sub f (a + 1) n (drop 1 old)
    (λ k b lt here.
    let same : a + suc k ≡ a + 1 + k = omega arith in
    let at = is (suc k) b (omega (arith, lt)) (ap f same ∙ here) in
    let next : 1 + k ≡ suc k = omega arith in
    (omega (arith, at.0, length-drop 1 old), get_or-drop 1 old k 0 ∙ ap (λ m. get_or old m 0) next ∙ at.1)))

part_kept : (size : ℕ) (old : List ℕ) (k b : ℕ) (o : Option StreamEdit) → part_by size old k o ≡ kept b → (o ≡ None) × (get_or old k 0 ≡ b)
part_kept size old k b None is = (refl, cc)
part_kept size old k b (Some e) is = absurd cc

pub stream_sub : (size : ℕ) (edits : List StreamEdit) (i : ℕ) (x : Option StreamBlocks) → IsBlockSize size → IsCovered size edits i x → IsSized size x → Sub (kept_in (parts_in (layout_of size edits i x))) (blocks_in x)
stream_sub size edits i None h covered is = refl
stream_sub size edits i (Some stream) h covered is =
    let len = len_after edits i stream.size in
    kept_sub (part_at size edits i stream.blocks) 0 (blocks_of_size size len) stream.blocks
    (λ k b lt here.
    let same : 0 + k ≡ k = omega arith in
    let at = part_kept size stream.blocks k b (edit_at edits i (k * size)) (ap (part_at size edits i stream.blocks) (sym same) ∙ here) in
    let begins = block_begins size len k h lt in
    let inside = covered_inside size edits i k (k * size) stream covered at.0 (omega arith) (omega (arith, (sized size h).least)) begins in
    (omega (arith, is.1, below_count size stream.size k h inside), at.1))

pub streams_sub : (size : ℕ) (edits : List StreamEdit) (i : ℕ) (streams : List (Option StreamBlocks)) → IsBlockSize size → ((k : ℕ) → IsCovered size edits (i + k) (get_or streams k None)) → AllByRecursion (IsSized size) streams
    → Sub (kept_in (all_parts (layouts_from size edits i streams))) (flat_map blocks_in streams)
streams_sub size edits i [] h covered are = refl
streams_sub size edits i (x ∷ streams) h covered are =
    let here = parts_in (layout_of size edits i x) in
    let rest = all_parts (layouts_from size edits (i + 1) streams) in
    let at_first : i + 0 ≡ i = omega arith in
    subst (λ bs. Sub bs (blocks_in x ++ flat_map blocks_in streams)) (sym (kept_in-append here rest))
    (sub_append (kept_in here) (blocks_in x) (kept_in rest) (flat_map blocks_in streams) (stream_sub size edits i x h (subst (λ j. IsCovered size edits j x) at_first (covered 0)) are.0)
    (streams_sub size edits (i + 1) streams h (λ k. let next : i + suc k ≡ i + 1 + k = omega arith in subst (λ j. IsCovered size edits j (get_or streams k None)) next (covered (suc k))) are.1))
