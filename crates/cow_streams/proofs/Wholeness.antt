-- The planned image is whole: it may be planned on in turn.
use Rattle.std.proofs.Common.{◌≡◌, ◌≤◌, ◌<◌, ◌+◌, ◌-◌, ◌^◌, ◌++◌, ◌⊎◌, ◌&&◌, not, ℕ, suc, Bool, true, false, List, [], ◌∷◌, length, map, take, drop, get_or, All, Option, Some, None, refl, sym, ap, subst, ◌∙◌, inl, inr, eqb, arith}
use Rattle.std.specs.List.{AllByRecursion, flat_map, list_any, range_with_len}
use Rattle.std.specs.List.Sorted.{IsStrictlyIncreasing}
use Rattle.std.proofs.lemmas.Bool.{and_right, both_ways, cases_Bool, eq-eqb, false_from_ne_true}
use Rattle.std.proofs.lemmas.List.{length-drop, length-take-le}
use Rattle.std.proofs.lemmas.List.Elements.{All-filter, recursion_from_All}
use Rattle.std.proofs.lemmas.List.Folds.{list_any_at}
use Rattle.std.proofs.lemmas.List.FromFn.{get_or-range_with_len, length-map-range_with_len, length-range_with_len}
use Rattle.std.proofs.lemmas.List.Kept.{IsStrictlyIncreasing-filter}
use Rattle.msf_blocks.specs.Blocks.{IsBlockSize, IsMap, IsReserved, blocks_of_size, is_reserved}
use Rattle.msf_blocks.specs.Edit.{StreamEdit}
use Rattle.msf_blocks.specs.Superblock.{IsSuper}
use Rattle.free_page_maps.specs.FreeBlocks.{below_where, is_free, unreserved_where}
use Rattle.free_page_maps.proofs.Listing.{is_free-below_where, unreserved_where-unreserved}
use Rattle.stream_directory.specs.Directory.{AreSized, AreUsable, IsDirectory, IsSized, StreamBlocks, absent_size, blocks_in, directory_text, size_field, skipped_count, stream_at}
use Rattle.stream_directory.proofs.Streams.{length-directory_text}
use Rattle.msf_image.specs.declared.image.Image.{Image}
use Rattle.msf_image.specs.Reads.{IsWhole, used_blocks}
use Rattle.msf_image.proofs.Directories.{rising_range}
use Rattle.msf_image.proofs.Listed.{usable_both, usable_inside}
use Rattle.msf_image.proofs.PackedStreams.{none_counted}
use Rattle.cow_streams.specs.Edits.{AreEdits, IsCovered, IsEdit, len_after}
use Rattle.cow_streams.specs.Layout.{all_parts, kept_in, laid, laid_one, layout_of, layouts, layouts_from, numbers, part_at, parts_in, parts_of, pieces}
use Rattle.cow_streams.specs.Planned.{FitsDirectory, given_blocks, kept_blocks, new_blocks, new_dir_blocks, new_dir_bytes, new_directory, new_free, new_head, new_image, new_layouts, new_listed, new_map_addr, written_count}
use Rattle.cow_streams.proofs.Editing.{len_short}
use Rattle.cow_streams.proofs.Lists.{Across, Distinct, Misses, Rises, any_misses, distinct_from_rises, each_behind, each_both, each_front, each_weaker, misses_by, rises_across, rises_behind, rises_front, split_three}
use Rattle.cow_streams.proofs.Numbering.{blocks_of_laid, length-laid, length-numbers, numbers_front}
use Rattle.cow_streams.proofs.Supplying.{IsSupply, given_inside, length-supply, no_fewer_blocks, supply_is}
use Rattle.cow_streams.proofs.Usable.{Sub, Usable, numbers_usable, streams_sub, sub_append, sub_distinct, sub_each, sub_none, usable_each, usable_from}

-- ---- the streams after edits

length-layouts_from : (size : ℕ) (edits : List StreamEdit) (i : ℕ) (streams : List (Option StreamBlocks)) → length (layouts_from size edits i streams) ≡ length streams
length-layouts_from size edits i [] = refl
length-layouts_from size edits i (x ∷ streams) = ap (λ n. suc n) (length-layouts_from size edits (i + 1) streams)

pub length-layouts : (size : ℕ) (edits : List StreamEdit) (streams : List (Option StreamBlocks)) → length (layouts size edits streams) ≡ length streams
unfolding layouts
length-layouts size edits [] = refl
length-layouts size edits (x ∷ streams) = ap (λ n. suc n) (length-layouts_from size edits 1 streams)

-- what is covered from stream 1 on
pub covered_from : (size : ℕ) (edits : List StreamEdit) (x : Option StreamBlocks) (streams : List (Option StreamBlocks)) → ((i : ℕ) → 1 ≤ i → IsCovered size edits i (stream_at (x ∷ streams) i)) → (k : ℕ) → IsCovered size edits (1 + k) (get_or streams k None)
covered_from size edits x streams covered k =
    let next : suc k ≡ 1 + k = omega arith in
    subst (λ j. IsCovered size edits j (get_or streams k None)) next (covered (suc k) (omega arith))

all_sub : (size : ℕ) (edits : List StreamEdit) (streams : List (Option StreamBlocks)) → IsBlockSize size → ((i : ℕ) → 1 ≤ i → IsCovered size edits i (stream_at streams i)) → AreSized size streams
    → Sub (kept_in (all_parts (layouts size edits streams))) (flat_map blocks_in streams)
unfolding layouts
all_sub size edits [] h covered are = refl
all_sub size edits (x ∷ streams) h covered are =
    sub_append [] (blocks_in x) (kept_in (all_parts (layouts_from size edits 1 streams))) (flat_map blocks_in streams) (sub_none (blocks_in x)) (streams_sub size edits 1 streams h (covered_from size edits x streams covered) are.1)

sized_one : (size : ℕ) (edits : List StreamEdit) (i : ℕ) (x : Option StreamBlocks) (given : List ℕ) → AllByRecursion (λ e. e.len < absent_size) edits → IsSized size x → IsSized size (laid_one (layout_of size edits i x) given)
sized_one size edits i None given short is = tt
sized_one size edits i (Some stream) given short is =
    (len_short edits i stream.size short is.0, length-numbers (parts_of size edits i stream) given ∙ length-map-range_with_len (part_at size edits i stream.blocks) 0 (blocks_of_size size (len_after edits i stream.size)))

sized_from : (size : ℕ) (edits : List StreamEdit) (i : ℕ) (streams : List (Option StreamBlocks)) (given : List ℕ) → AllByRecursion (λ e. e.len < absent_size) edits → AllByRecursion (IsSized size) streams → AllByRecursion (IsSized size) (laid (layouts_from size edits i streams) given)
sized_from size edits i [] given short are = tt
sized_from size edits i (x ∷ streams) given short are =
    (sized_one size edits i x given short are.0, sized_from size edits (i + 1) streams (drop (length (pieces (parts_in (layout_of size edits i x)))) given) short are.1)

all_sized : (size : ℕ) (edits : List StreamEdit) (streams : List (Option StreamBlocks)) (given : List ℕ) → AllByRecursion (λ e. e.len < absent_size) edits → AreSized size streams → AreSized size (laid (layouts size edits streams) given)
unfolding layouts
all_sized size edits [] given short are = tt
all_sized size edits (x ∷ streams) given short are = ((omega arith, refl), sized_from size edits 1 streams given short are.1)

none_skipped_of : (size : ℕ) (edits : List StreamEdit) (streams : List (Option StreamBlocks)) (given : List ℕ) → IsBlockSize size → skipped_count size (map size_field (laid (layouts size edits streams) given)) ≡ 0
unfolding layouts
none_skipped_of size edits [] given h = refl
none_skipped_of size edits (x ∷ streams) given h = none_counted size h

-- ---- free blocks by a test

where_inside : (n : ℕ) (p : ℕ → Bool) → All (λ b. b < n) (below_where n p)
unfolding below_where
where_inside n p =
    All-filter p (λ b. b < n) (range_with_len 0 n)
    (λ k d lt. let len = length-range_with_len 0 n in omega (arith, lt, len, get_or-range_with_len 0 n k d (omega (arith, lt, len))))

where_rising : (n : ℕ) (p : ℕ → Bool) → IsStrictlyIncreasing (below_where n p)
unfolding below_where
where_rising n p = IsStrictlyIncreasing-filter p (range_with_len 0 n) (rising_range n)

not_free : (size n : ℕ) (used : List ℕ) → All (λ b. b < n) used → All (λ b. is_free (unreserved_where size n (λ b. not (list_any (λ x. eqb x b) used))) b ≡ false) used
not_free size n used inside k d lt =
    let b = get_or used k d in
    is_free-below_where n (λ b. not (is_reserved size b) && not (list_any (λ x. eqb x b) used)) b (inside k d lt)
    ∙ ap (λ t. not (is_reserved size b) && not t) (list_any_at (λ x. eqb x b) used k d lt (eq-eqb b b refl)) ∙ and_right (not (is_reserved size b)) false refl

-- ---- the old blocks

pub record IsOldBlock (old : Image) (b : ℕ) : Type 0 where
  pub unreserved : ¬ IsReserved old.head.block b
  pub inside : b < old.head.blocks
  pub not_free : is_free old.free b ≡ false

pub old_blocks : (old : Image) → IsWhole old → AllByRecursion (IsOldBlock old) (flat_map blocks_in old.directory) × Distinct (flat_map blocks_in old.directory)
old_blocks old whole =
    let listed = old.head.map_addr ∷ whole.blocks in
    let blocks = flat_map blocks_in old.directory in
    let NotFree = λ (b : ℕ). is_free old.free b ≡ false in
    let are = usable_each old.head listed blocks whole.directory.usable in
    let none = each_behind NotFree listed blocks (recursion_from_All NotFree (listed ++ blocks) whole.none_free) in
    (each_both (Usable old.head listed) NotFree (IsOldBlock old) blocks (λ b is free. record { unreserved = is.0; inside = is.1; not_free = free }) are.0 none, are.1)

module _ (old : Image) (edits : List StreamEdit) where
  kept_sub_old : IsWhole old → AreEdits old.head.block old.directory edits → Sub (kept_blocks old edits) (flat_map blocks_in old.directory)
  unfolding new_layouts
  kept_sub_old whole are = all_sub old.head.block edits old.directory whole.head.block are.covered whole.directory.sized

  pub kept_old : IsWhole old → AreEdits old.head.block old.directory edits → AllByRecursion (IsOldBlock old) (kept_blocks old edits)
  kept_old whole are = sub_each (IsOldBlock old) (kept_blocks old edits) (flat_map blocks_in old.directory) (kept_sub_old whole are) (old_blocks old whole).0

  kept_once : IsWhole old → AreEdits old.head.block old.directory edits → Distinct (kept_blocks old edits)
  kept_once whole are = sub_distinct (kept_blocks old edits) (flat_map blocks_in old.directory) (kept_sub_old whole are) (old_blocks old whole).1

  -- ---- the given blocks

  pub given_supply : IsWhole old → IsSupply old (given_blocks old edits)
  unfolding given_blocks
  given_supply whole = supply_is old (written_count old edits + new_dir_blocks old edits + 1) whole

  pub length_given : length (given_blocks old edits) ≡ written_count old edits + new_dir_blocks old edits + 1
  unfolding given_blocks
  length_given = length-supply old.head.block old.head.blocks old.free.free (written_count old edits + new_dir_blocks old edits + 1)

  -- those of the streams, before those of the directory and the block map
  abbrev pub front : List ℕ
  front = take (written_count old edits) (given_blocks old edits)

  pub given_split : given_blocks old edits ≡ front ++ (new_listed old edits ++ new_map_addr old edits ∷ [])
  unfolding new_listed new_map_addr
  given_split = split_three (written_count old edits) (new_dir_blocks old edits) (given_blocks old edits) length_given

  pub length_front : length front ≡ written_count old edits
  length_front = length-take-le (written_count old edits) (given_blocks old edits) (omega (arith, length_given))

  pub length_listed : length (new_listed old edits) ≡ new_dir_blocks old edits
  unfolding new_listed
  length_listed = length-take-le (new_dir_blocks old edits) (drop (written_count old edits) (given_blocks old edits)) (omega (arith, length-drop (written_count old edits) (given_blocks old edits), length_given))

  pub each_part : (P : ℕ → Type 0) → AllByRecursion P (given_blocks old edits) → AllByRecursion P front × AllByRecursion P (new_listed old edits) × P (new_map_addr old edits)
  each_part P each =
      let listed = new_listed old edits in
      let last = new_map_addr old edits ∷ [] in
      let all = subst (AllByRecursion P) given_split each in
      let behind = each_behind P front (listed ++ last) all in
      (each_front P front (listed ++ last) all, each_front P listed last behind, (each_behind P listed last behind).0)

  pub all_inside : AllByRecursion (λ b. b < new_blocks old edits) (given_blocks old edits)
  unfolding new_blocks
  all_inside = given_inside old.head.blocks (given_blocks old edits)

  pub no_fewer : old.head.blocks ≤ new_blocks old edits
  unfolding new_blocks
  no_fewer = no_fewer_blocks old.head.blocks (given_blocks old edits)

  -- none of them is one that is kept
  pub given_across : IsWhole old → AreEdits old.head.block old.directory edits → Across (given_blocks old edits) (kept_blocks old edits)
  given_across whole are =
      let given = given_blocks old edits in
      let Spare = λ (b : ℕ). (is_free old.free b ≡ true) ⊎ (old.head.blocks ≤ b) in
      each_weaker (IsOldBlock old) (λ b. Misses given b) (kept_blocks old edits)
      (λ b is. misses_by Spare given b (given_supply whole).spare (λ spare. elim spare [ inl free ↦ both_ways (is_free old.free b) is.not_free free | inr past ↦ let inside = is.inside in omega (arith, past, inside) ]))
      (kept_old whole are)

  -- ---- the blocks that are used

  turned : (listed : List ℕ) (m b : ℕ) → Misses (listed ++ m ∷ []) b → Misses (m ∷ listed) b
  turned listed m b misses = ((each_behind (λ x. x ≡ b → ⊥) listed (m ∷ []) misses).0, each_front (λ x. x ≡ b → ⊥) listed (m ∷ []) misses)

  pub listed_usable : IsWhole old → AreUsable (new_head old edits) [] (new_map_addr old edits ∷ new_listed old edits)
  listed_usable whole =
      let s = new_head old edits in
      let listed = new_listed old edits in
      let m = new_map_addr old edits in
      let g = given_supply whole in
      let unreserved = each_part (λ b. ¬ IsReserved s.block b) g.unreserved in
      let inside = each_part (λ b. b < s.blocks) all_inside in
      let behind = rises_behind front (listed ++ m ∷ []) (subst Rises given_split g.rises) in
      let last = rises_across listed (m ∷ []) behind in
      let first : Usable s [] m = (unreserved.2, inside.2, refl) in
      let others = each_both (λ b. ¬ IsReserved s.block b) (λ b. b < s.blocks) (Usable s []) listed (λ b lies lt. (lies, lt, refl)) unreserved.1 inside.1 in
      let below = each_weaker (λ x. AllByRecursion (λ y. x < y) (m ∷ [])) (λ x. x ≡ m → ⊥) listed (λ x lt same. let less = lt.0 in omega (arith, less, same)) last in
      usable_from s [] (m ∷ listed) (first, others) (below, distinct_from_rises listed (rises_front listed (m ∷ []) behind))

  streams_usable : IsWhole old → AreEdits old.head.block old.directory edits → AreUsable (new_head old edits) (new_map_addr old edits ∷ new_listed old edits) (flat_map blocks_in (new_directory old edits))
  unfolding new_directory written_count
  streams_usable whole are =
      let s = new_head old edits in
      let listed = new_listed old edits in
      let m = new_map_addr old edits in
      let earlier = m ∷ listed in
      let parts = all_parts (new_layouts old edits) in
      let given = given_blocks old edits in
      let g = given_supply whole in
      let enough : length (pieces parts) ≤ length front = omega (arith, length_front) in
      let is : flat_map blocks_in (laid (new_layouts old edits) given) ≡ numbers parts front =
      blocks_of_laid (new_layouts old edits) given ∙ ap (numbers parts) given_split ∙ numbers_front parts front (listed ++ m ∷ []) enough in
      let unreserved = each_part (λ b. ¬ IsReserved s.block b) g.unreserved in
      let inside = each_part (λ b. b < s.blocks) all_inside in
      let rises = subst Rises given_split g.rises in
      let across = rises_across front (listed ++ m ∷ []) rises in
      let new : AllByRecursion (λ b. list_any (λ x. eqb x b) earlier ≡ false) front =
      each_weaker (λ y. AllByRecursion (λ x. y < x) (listed ++ m ∷ [])) (λ b. list_any (λ x. eqb x b) earlier ≡ false) front
      (λ y below. any_misses earlier y (turned listed m y (each_weaker (λ x. y < x) (λ x. x ≡ y → ⊥) (listed ++ m ∷ []) (λ x lt same. omega (arith, lt, same)) below))) across in
      let news = each_both (λ b. (¬ IsReserved s.block b) × (b < s.blocks)) (λ b. list_any (λ x. eqb x b) earlier ≡ false) (Usable s earlier) front (λ b is none. (is.0, is.1, none))
      (each_both (λ b. ¬ IsReserved s.block b) (λ b. b < s.blocks) (λ b. (¬ IsReserved s.block b) × (b < s.blocks)) front (λ b lies lt. (lies, lt)) unreserved.0 inside.0) new in
      let Missed = λ (b : ℕ). Misses (front ++ (listed ++ m ∷ [])) b in
      let apart : AllByRecursion Missed (kept_blocks old edits) = subst (λ xs. Across xs (kept_blocks old edits)) given_split (given_across whole are) in
      let olds = each_both (IsOldBlock old) Missed (Usable s earlier) (kept_blocks old edits)
      (λ b is misses. (is.unreserved, (let lt = is.inside in omega (arith, lt, no_fewer)), any_misses earlier b (turned listed m b (each_behind (λ x. x ≡ b → ⊥) front (listed ++ m ∷ []) misses)))) (kept_old whole are) apart in
      subst (AreUsable s earlier) (sym is)
      (numbers_usable s earlier parts front news (distinct_from_rises front (rises_front front (listed ++ m ∷ []) rises)) olds (kept_once whole are)
      (each_weaker Missed (λ b. Misses front b) (kept_blocks old edits) (λ b misses. each_front (λ x. x ≡ b → ⊥) front (listed ++ m ∷ []) misses) apart) enough)

  pub used_usable : IsWhole old → AreEdits old.head.block old.directory edits → AreUsable (new_head old edits) [] (used_blocks (new_map_addr old edits ∷ new_listed old edits) (new_directory old edits))
  used_usable whole are =
      usable_both (new_head old edits) [] (new_map_addr old edits ∷ new_listed old edits) (flat_map blocks_in (new_directory old edits)) (listed_usable whole) (streams_usable whole are)

  -- ---- the directory and the superblock

  pub length_directory : length (directory_text (new_directory old edits)) ≡ new_dir_bytes old edits
  unfolding new_directory new_dir_bytes
  length_directory =
      let ls = new_layouts old edits in
      let given = given_blocks old edits in
      omega (arith, length-directory_text (laid ls given), length-laid ls given, ap length (blocks_of_laid ls given), length-numbers (all_parts ls) given)

  pub none_skipped : IsWhole old → skipped_count old.head.block (map size_field (new_directory old edits)) ≡ 0
  unfolding new_directory new_layouts
  none_skipped whole = none_skipped_of old.head.block edits old.directory (given_blocks old edits) whole.head.block

  pub is_sized : IsWhole old → AreEdits old.head.block old.directory edits → AreSized old.head.block (new_directory old edits)
  unfolding new_directory new_layouts
  is_sized whole are =
      all_sized old.head.block edits old.directory (given_blocks old edits)
      (each_weaker (IsEdit old.head.block old.directory edits) (λ e. e.len < absent_size) edits (λ e is. is.short) (recursion_from_All (IsEdit old.head.block old.directory edits) edits are.each)) whole.directory.sized

  few_streams : IsWhole old → length (new_directory old edits) < 2 ^ 32
  unfolding new_directory new_layouts
  few_streams whole =
      let few = whole.directory.few in
      omega (arith, few, length-laid (layouts old.head.block edits old.directory) (given_blocks old edits), length-layouts old.head.block edits old.directory)

  least_directory : 4 ≤ new_dir_bytes old edits
  unfolding new_dir_bytes
  least_directory = omega arith

  pub other_map : IsMap old.head.map → IsMap (3 - old.head.map)
  other_map is = elim is [ inl one ↦ inr (omega (arith, one)) | inr two ↦ inl (omega (arith, two)) ]

  pub is_super : (limit : ℕ) → IsWhole old → limit < 2 ^ 32 → FitsDirectory old edits → new_blocks old edits ≤ limit → IsSuper (new_head old edits)
  is_super limit whole fits directory few =
      let head = whole.head in
      let least = head.least_blocks in
      record {
        block = head.block;
        map = other_map head.map;
        least_blocks = omega (arith, least, no_fewer);
        blocks_fit = omega (arith, few, fits);
        least_dir_bytes = least_directory;
        most_dir_bytes = directory;
        unknown_fits = head.unknown_fits;
        map_addr_unreserved = (each_part (λ b. ¬ IsReserved old.head.block b) (given_supply whole).unreserved).2;
        map_addr_inside = (each_part (λ b. b < new_blocks old edits) all_inside).2;
      }

  -- ---- the image

  pub is_directory : IsWhole old → AreEdits old.head.block old.directory edits → IsDirectory (new_head old edits) (new_map_addr old edits ∷ new_listed old edits) (new_directory old edits)
  is_directory whole are = record { few = few_streams whole; sized = is_sized whole are; usable = streams_usable whole are }

  pub none_free : IsWhole old → AreEdits old.head.block old.directory edits → All (λ b. is_free (new_free old edits) b ≡ false) (used_blocks (new_map_addr old edits ∷ new_listed old edits) (new_directory old edits))
  unfolding new_free
  none_free whole are =
      let used = used_blocks (new_map_addr old edits ∷ new_listed old edits) (new_directory old edits) in
      not_free old.head.block (new_blocks old edits) used (usable_inside (new_head old edits) [] used (used_usable whole are))

  pub free_blocks : (new_free old edits).blocks ≡ new_blocks old edits
  unfolding new_free
  free_blocks = refl

  pub free_inside : All (λ b. b < new_blocks old edits) (new_free old edits).free
  unfolding new_free
  free_inside = where_inside (new_blocks old edits) _

  pub free_unreserved : All (λ b. ¬ IsReserved old.head.block b) (new_free old edits).free
  unfolding new_free
  free_unreserved = unreserved_where-unreserved old.head.block (new_blocks old edits) _

  pub free_rising : IsStrictlyIncreasing (new_free old edits).free
  unfolding new_free
  free_rising = where_rising (new_blocks old edits) _

  unfoldable pub is_whole : (limit : ℕ) → IsWhole old → AreEdits old.head.block old.directory edits → limit < 2 ^ 32 → FitsDirectory old edits → new_blocks old edits ≤ limit → IsWhole (new_image old edits)
  is_whole limit whole are fits directory few = record {
    head = is_super limit whole fits directory few;
    blocks = new_listed old edits;
    count = length_listed;
    directory = is_directory whole are;
    usable = used_usable whole are;
    none_free = none_free whole are;
    size = free_blocks;
    inside = free_inside;
    unreserved = free_unreserved;
    rising = free_rising;
  }

  -- every unreserved block is used or free
  pub is_complete : (b : ℕ) → b < new_blocks old edits → ¬ IsReserved old.head.block b
      → (is_free (new_free old edits) b ≡ true) ⊎ (list_any (λ x. eqb x b) (used_blocks (new_map_addr old edits ∷ new_listed old edits) (new_directory old edits)) ≡ true)
  unfolding new_free
  is_complete b lt unreserved =
      let used = list_any (λ x. eqb x b) (used_blocks (new_map_addr old edits ∷ new_listed old edits) (new_directory old edits)) in
      let is = is_free-below_where (new_blocks old edits) (λ b. not (is_reserved old.head.block b) && not (list_any (λ x. eqb x b) (used_blocks (new_map_addr old edits ∷ new_listed old edits) (new_directory old edits)))) b lt in
      elim (cases_Bool used) [
        | inl is_used ↦ inr is_used
        | inr not_used ↦ inl (is ∙ ap (λ t. not t && not used) (false_from_ne_true (is_reserved old.head.block b) unreserved) ∙ ap (λ t. not t) not_used)
      ]
