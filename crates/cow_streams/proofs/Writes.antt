-- The writes: whole blocks from which the old image is not read, no block twice; once all are made, each stands.
use Rattle.std.proofs.Common.{◌≡◌, ◌≤◌, ◌<◌, ◌+◌, ◌-◌, ◌*◌, ◌/◌, ◌^◌, ◌++◌, ◌⊎◌, ℕ, zero, suc, true, List, [], ◌∷◌, length, map, take, drop, get_or, All, Option, Some, None, refl, sym, ap, subst, ◌∙◌, inl, inr, arith}
use Rattle.std.specs.List.{AllByRecursion, flat_map, range_with_len}
use Rattle.std.specs.List.Sorted.{IsStrictlyIncreasing}
use Rattle.std.proofs.lemmas.List.{length-append, length-drop, length-take, map-append}
use Rattle.std.proofs.lemmas.List.Elements.{All-from_recursion}
use Rattle.std.proofs.lemmas.List.FromFn.{get_or-map-range_with_len, length-map-range_with_len}
use Rattle.std.proofs.lemmas.Nat.{mul-le}
use Rattle.std.proofs.Math.Nat.{suc-mul}
use Rattle.srv_edge.specs.Disk.{splice}
use Rattle.srv_edge.specs.Torn.{torn-splice}
use Rattle.srv_edge.proofs.Ranges.{spliced_holds, spliced_keeps}
use Rattle.msf_blocks.specs.declared.superblock.Super.{Super}
use Rattle.msf_blocks.specs.Blocks.{IsReserved, block_offset, blocks_of_size, map_block, map_blocks}
use Rattle.msf_blocks.specs.Edit.{StreamEdit}
use Rattle.msf_blocks.proofs.Sizes.{sized}
use Rattle.free_page_maps.specs.FreeBlocks.{is_free}
use Rattle.free_page_maps.specs.MapText.{map_text}
use Rattle.stream_directory.specs.Directory.{StreamBlocks, directory_text, word}
use Rattle.msf_image.specs.declared.image.Image.{Image}
use Rattle.msf_image.specs.Packed.{block_of}
use Rattle.msf_image.specs.Reads.{IsWhole, active_map_blocks, block_bytes}
use Rattle.msf_image.specs.Relation.{IsSpare}
use Rattle.msf_image.proofs.Directories.{map_inside}
use Rattle.msf_image.proofs.Laying.{length-block_of}
use Rattle.msf_image.proofs.Sparing.{apart_blocks, map_number, map_reserved}
use Rattle.cow_streams.specs.Edits.{AreEdits, edit_at, len_after}
use Rattle.cow_streams.specs.Layout.{Part, kept, fresh, all_parts, layout_of, layouts, layouts_from, part_at, part_by, parts_in, pieces}
use Rattle.cow_streams.specs.Plan.{IsSparing, IsUnwritten}
use Rattle.cow_streams.specs.Planned.{FitsDirectory, Stands, Write, block_writes, given_blocks, kept_blocks, map_writes, new_blocks, new_dir_blocks, new_directory, new_free, new_head, new_layouts, new_listed, new_pieces, planned, with_writes, writes_to, written_count}
use Rattle.cow_streams.proofs.Joined.{each_place}
use Rattle.cow_streams.proofs.Lists.{Distinct, Misses, Rises, distinct_append, distinct_from_rises, each_append, each_both, each_weaker, increasing_from_rises, misses_by}
use Rattle.cow_streams.proofs.Numbering.{blocks_written, each_write}
use Rattle.cow_streams.proofs.Supplying.{unreserved_behind}
use Rattle.cow_streams.proofs.Wholeness.{IsOldBlock, all_inside, given_across, given_supply, is_super, kept_old, length_directory, length_given, other_map}

-- ---- whole blocks

abbrev pub IsWholePart : ℕ → Part → Type 0
IsWholePart size (kept b) = Unit {0}
IsWholePart size (fresh x) = length x ≡ size

whole_pieces : (size : ℕ) (parts : List Part) → AllByRecursion (IsWholePart size) parts → AllByRecursion (λ x. length x ≡ size) (pieces parts)
whole_pieces size [] each = tt
whole_pieces size (kept b ∷ parts) each = whole_pieces size parts each.1
whole_pieces size (fresh x ∷ parts) each = (each.0, whole_pieces size parts each.1)

whole_part : (size : ℕ) (old : List ℕ) (k : ℕ) (o : Option StreamEdit) → IsWholePart size (part_by size old k o)
whole_part size old k None = tt
whole_part size old k (Some e) = length-block_of size e.bytes (k - e.at / size)

whole_layout : (size : ℕ) (edits : List StreamEdit) (i : ℕ) (x : Option StreamBlocks) → AllByRecursion (IsWholePart size) (parts_in (layout_of size edits i x))
whole_layout size edits i None = tt
whole_layout size edits i (Some stream) =
    each_place (IsWholePart size) (part_at size edits i stream.blocks) 0 (blocks_of_size size (len_after edits i stream.size)) (λ k from to. whole_part size stream.blocks k (edit_at edits i (k * size)))

whole_layouts : (size : ℕ) (edits : List StreamEdit) (i : ℕ) (streams : List (Option StreamBlocks)) → AllByRecursion (IsWholePart size) (all_parts (layouts_from size edits i streams))
whole_layouts size edits i [] = tt
whole_layouts size edits i (x ∷ streams) =
    each_append (IsWholePart size) (parts_in (layout_of size edits i x)) (all_parts (layouts_from size edits (i + 1) streams)) (whole_layout size edits i x) (whole_layouts size edits (i + 1) streams)

whole_all : (size : ℕ) (edits : List StreamEdit) (streams : List (Option StreamBlocks)) → AllByRecursion (IsWholePart size) (all_parts (layouts size edits streams))
unfolding layouts
whole_all size edits [] = tt
whole_all size edits (x ∷ streams) = whole_layouts size edits 1 streams

-- ---- writes that stand

-- a file that has a whole block has all its bytes
pub block_there : (size b : ℕ) (file : List ℕ) → 0 < size → length (block_bytes size file b) ≡ size → b * size + size ≤ length file
block_there size b file some whole = omega (arith, length-take size (drop (b * size) file), length-drop (b * size) file, whole, some)

pub stands_inside : (size : ℕ) (file : List ℕ) (xs : List (List ℕ)) (blocks : List ℕ) → 0 < size → length xs ≡ length blocks → AllByRecursion (λ x. length x ≡ size) xs → AllByRecursion (Stands size file) (writes_to xs blocks)
    → AllByRecursion (λ b. b * size + size ≤ length file) blocks
stands_inside size file [] [] some same whole stand = tt
stands_inside size file [] (b ∷ blocks) some same whole stand = absurd (omega (arith, same))
stands_inside size file (x ∷ xs) [] some same whole stand = absurd (omega (arith, same))
stands_inside size file (x ∷ xs) (b ∷ blocks) some same whole stand =
    (block_there size b file some (ap length stand.0 ∙ whole.0), stands_inside size file xs blocks some (omega (arith, same)) whole.1 stand.1)

abbrev pub blocks_in_writes : List Write → List ℕ
blocks_in_writes writes = map (λ w. w.block) writes

abbrev IsWholeWrite : ℕ → Write → Type 0
IsWholeWrite size w = length w.bytes ≡ size

spliced_block : (size b : ℕ) (file : List ℕ) (w : Write) → IsWholeWrite size w → (w.block ≡ b → ⊥) → b * size + size ≤ length file → block_bytes size (splice file (block_offset size w.block) w.bytes) b ≡ block_bytes size file b
spliced_block size b file w whole other inside =
    spliced_keeps (block_offset size w.block) (b * size) size file w.bytes inside
    (subst (λ n. (b * size + size ≤ block_offset size w.block) ⊎ (block_offset size w.block + n ≤ b * size)) (sym whole) (apart_blocks size b w.block (λ same. other (sym same))))

writes_keep : (size b : ℕ) (file : List ℕ) (writes : List Write) → AllByRecursion (IsWholeWrite size) writes → Misses (blocks_in_writes writes) b → b * size + size ≤ length file → block_bytes size (with_writes size file writes) b ≡ block_bytes size file b
writes_keep size b file [] whole misses inside = refl
writes_keep size b file (w ∷ writes) whole misses inside =
    let next = splice file (block_offset size w.block) w.bytes in
    let longer = (torn-splice 0 file (block_offset size w.block) w.bytes).no_shorter in
    writes_keep size b next writes whole.1 misses.1 (omega (arith, longer, inside)) ∙ spliced_block size b file w whole.0 misses.0 inside

pub all_stand : (size : ℕ) (file : List ℕ) (writes : List Write) → 0 < size → AllByRecursion (IsWholeWrite size) writes → Distinct (blocks_in_writes writes) → AllByRecursion (Stands size (with_writes size file writes)) writes
all_stand size file [] some whole once = tt
all_stand size file (w ∷ writes) some whole once =
    let next = splice file (block_offset size w.block) w.bytes in
    let here : block_bytes size next w.block ≡ w.bytes = ap (λ n. take n (drop (block_offset size w.block) next)) (sym whole.0) ∙ spliced_holds file (block_offset size w.block) w.bytes in
    let inside = block_there size w.block next some (ap length here ∙ whole.0) in
    (writes_keep size w.block next writes whole.1 once.0 inside ∙ here, all_stand size next writes some whole.1 once.1)

-- ---- the blocks of a map

pub map_blocks_of : (s : Super) (text : List ℕ) (a n : ℕ) → blocks_in_writes (map (λ j. record { block = map_block s.block s.map j; bytes = block_of s.block text j }) (range_with_len a n)) ≡ map (map_block s.block s.map) (range_with_len a n)
map_blocks_of s text a zero = refl
map_blocks_of s text a (suc n) = ap (λ bs. map_block s.block s.map a ∷ bs) (map_blocks_of s text (a + 1) n)

pub map_rises : (s : Super) (a n : ℕ) → 0 < s.block → Rises (map (map_block s.block s.map) (range_with_len a n))
map_rises s a zero some = tt
map_rises s a (suc n) some = (
  each_place (λ y. map_block s.block s.map a < y) (map_block s.block s.map) (a + 1) n (λ k from to. let more = mul-le (a + 1) s.block k s.block from (omega arith) in omega (arith, more, suc-mul a s.block, some)),
  map_rises s (a + 1) n some,
)

pub each_map_write : (P : Write → Type 0) (s : Super) (text : List ℕ) → ((j : ℕ) → j < map_blocks s.block s.blocks → P (record { block = map_block s.block s.map j; bytes = block_of s.block text j })) → AllByRecursion P (map_writes s text)
each_map_write P s text each =
    each_place P (λ j. record { block = map_block s.block s.map j; bytes = block_of s.block text j }) 0 (map_blocks s.block s.blocks) (λ j from to. each j (omega (arith, to)))

-- ---- the plan's

module _ (old : Image) (edits : List StreamEdit) where
  pub pieces_whole : AllByRecursion (λ x. length x ≡ old.head.block) (new_pieces old edits)
  unfolding new_pieces new_layouts
  pieces_whole =
      let size = old.head.block in
      let Whole = λ (x : List ℕ). length x ≡ size in
      let ps = pieces (all_parts (layouts size edits old.directory)) in
      let text = directory_text (new_directory old edits) in
      let listed = new_listed old edits in
      let last = flat_map word listed in
      each_append Whole ps (map (block_of size text) (range_with_len 0 (blocks_of_size size (length text))) ++ block_of size last 0 ∷ []) (whole_pieces size (all_parts (layouts size edits old.directory)) (whole_all size edits old.directory))
      (each_append Whole (map (block_of size text) (range_with_len 0 (blocks_of_size size (length text)))) (block_of size last 0 ∷ [])
      (each_place Whole (block_of size text) 0 (blocks_of_size size (length text)) (λ k from to. length-block_of size text k)) (length-block_of size last 0, tt))

  pub length_pieces : length (new_pieces old edits) ≡ length (given_blocks old edits)
  unfolding new_pieces written_count
  length_pieces =
      let size = old.head.block in
      let ps = pieces (all_parts (new_layouts old edits)) in
      let text = directory_text (new_directory old edits) in
      let last = block_of size (flat_map word (new_listed old edits)) 0 ∷ [] in
      let cut = map (block_of size text) (range_with_len 0 (blocks_of_size size (length text))) in
      let n_cut : length cut ≡ new_dir_blocks old edits = length-map-range_with_len (block_of size text) 0 (blocks_of_size size (length text)) ∙ ap (blocks_of_size size) (length_directory old edits) in
      omega (arith, length-append ps (cut ++ last), length-append cut last, n_cut, length_given old edits)

  abbrev pub map_part : List Write
  map_part = map_writes (new_head old edits) (map_text old.head.block (new_free old edits))

  record IsNew (b : ℕ) : Type 0 where
    unreserved : ¬ IsReserved old.head.block b
    inside : b < new_blocks old edits
    spare : (is_free old.free b ≡ true) ⊎ (old.head.blocks ≤ b)

  all_new : IsWhole old → AllByRecursion IsNew (given_blocks old edits)
  all_new whole =
      let g = given_supply old edits whole in
      let Spare = λ (b : ℕ). (is_free old.free b ≡ true) ⊎ (old.head.blocks ≤ b) in
      each_both (λ b. (¬ IsReserved old.head.block b) × (b < new_blocks old edits)) Spare IsNew (given_blocks old edits) (λ b is spare. record { unreserved = is.0; inside = is.1; spare = spare })
      (each_both (λ b. ¬ IsReserved old.head.block b) (λ b. b < new_blocks old edits) (λ b. (¬ IsReserved old.head.block b) × (b < new_blocks old edits)) (given_blocks old edits) (λ b lies lt. (lies, lt)) g.unreserved (all_inside old edits)) g.spare

  as_spare : (b : ℕ) → (is_free old.free b ≡ true) ⊎ (old.head.blocks ≤ b) → IsSpare old b
  as_spare b spare = elim spare [ inl free ↦ inl free | inr past ↦ inr (inl past) ]

  blocks_sparing : IsWhole old → AllByRecursion (IsSparing old (new_head old edits)) (block_writes old edits)
  blocks_sparing whole =
      each_write (IsSparing old (new_head old edits)) IsNew (λ x. length x ≡ old.head.block) (new_pieces old edits) (given_blocks old edits) (omega (arith, length_pieces))
      (λ b x is len. record { spare = as_spare b is.spare; behind = unreserved_behind old.head.block b is.unreserved; inside = is.inside; whole = len }) (all_new whole) pieces_whole

  map_sparing : (limit : ℕ) → IsWhole old → limit < 2 ^ 32 → FitsDirectory old edits → new_blocks old edits ≤ limit → AllByRecursion (IsSparing old (new_head old edits)) map_part
  map_sparing limit whole fits directory few =
      let s = new_head old edits in
      let n = map_blocks s.block s.blocks in
      let is = is_super old edits limit whole fits directory few in
      let m = map_number s.map is.map in
      let inside = map_inside s n (active_map_blocks s) is refl refl in
      each_map_write (IsSparing old s) s (map_text old.head.block (new_free old edits))
      (λ j lt.
      let there : j < length (active_map_blocks s) = omega (arith, lt, length-map-range_with_len (map_block s.block s.map) 0 n) in
      let at : get_or (active_map_blocks s) j 0 ≡ map_block s.block s.map j = get_or-map-range_with_len (map_block s.block s.map) 0 n j j 0 lt (omega arith) in
      record { spare = inr (inr (j, refl)); behind = omega (arith, m.0); inside = subst (λ b. b < s.blocks) at (inside j 0 there); whole = length-block_of s.block (map_text old.head.block (new_free old edits)) j })

  pub all_sparing : (limit : ℕ) → IsWhole old → limit < 2 ^ 32 → FitsDirectory old edits → new_blocks old edits ≤ limit → AllByRecursion (IsSparing old (new_head old edits)) ((planned old edits).writes)
  all_sparing limit whole fits directory few = each_append (IsSparing old (new_head old edits)) (block_writes old edits) map_part (blocks_sparing whole) (map_sparing limit whole fits directory few)

  pub rising : IsWhole old → IsStrictlyIncreasing (blocks_in_writes (block_writes old edits))
  rising whole = subst IsStrictlyIncreasing (sym (blocks_written (new_pieces old edits) (given_blocks old edits) length_pieces)) (increasing_from_rises (given_blocks old edits) (given_supply old edits whole).rises)

  -- the blocks of the map are reserved, and no given one is
  map_misses : (b : ℕ) → IsWhole old → ¬ IsReserved old.head.block b → Misses (blocks_in_writes map_part) b
  map_misses b whole unreserved =
      let s = new_head old edits in
      let n = map_blocks s.block s.blocks in
      let m = map_number s.map (other_map old edits whole.head.map) in
      subst (λ bs. Misses bs b) (sym (map_blocks_of s (map_text old.head.block (new_free old edits)) 0 n))
      (misses_by (IsReserved old.head.block) (map (map_block s.block s.map) (range_with_len 0 n)) b
      (each_place (IsReserved old.head.block) (map_block s.block s.map) 0 n (λ j from to. map_reserved old.head.block s.map j whole.head.block m.0 m.1)) unreserved)

  blocks_split : blocks_in_writes (planned old edits).writes ≡ given_blocks old edits ++ blocks_in_writes map_part
  blocks_split = map-append (λ (w : Write). w.block) (block_writes old edits) map_part ∙ ap (λ bs. bs ++ blocks_in_writes map_part) (blocks_written (new_pieces old edits) (given_blocks old edits) length_pieces)

  pub blocks_once : IsWhole old → Distinct (blocks_in_writes (planned old edits).writes)
  blocks_once whole =
      let s = new_head old edits in
      let n = map_blocks s.block s.blocks in
      let g = given_supply old edits whole in
      let some = (sized old.head.block whole.head.block).least in
      subst Distinct (sym blocks_split)
      (distinct_append (given_blocks old edits) (blocks_in_writes map_part) (distinct_from_rises (given_blocks old edits) g.rises)
      (subst Distinct (sym (map_blocks_of s (map_text old.head.block (new_free old edits)) 0 n)) (distinct_from_rises (map (map_block s.block s.map) (range_with_len 0 n)) (map_rises s 0 n (omega (arith, some)))))
      (each_weaker (λ b. ¬ IsReserved old.head.block b) (λ b. Misses (blocks_in_writes map_part) b) (given_blocks old edits) (λ b unreserved. map_misses b whole unreserved) g.unreserved))

  -- a block that is kept is not written
  unwritten_from : (writes : List Write) (b : ℕ) → Misses (blocks_in_writes writes) b → AllByRecursion (λ w. w.block ≡ b → ⊥) writes
  unwritten_from [] b misses = tt
  unwritten_from (w ∷ writes) b misses = (misses.0, unwritten_from writes b misses.1)

  pub kept_unwritten : IsWhole old → AreEdits old.head.block old.directory edits → All (IsUnwritten ((planned old edits).writes)) (kept_blocks old edits)
  kept_unwritten whole are =
      let writes = (planned old edits).writes in
      let given = given_blocks old edits in
      All-from_recursion (IsUnwritten writes) (kept_blocks old edits)
      (each_both (IsOldBlock old) (λ b. Misses given b) (IsUnwritten writes) (kept_blocks old edits)
      (λ b is misses.
      All-from_recursion (λ w. w.block ≡ b → ⊥) writes
      (unwritten_from writes b (subst (λ bs. Misses bs b) (sym blocks_split) (each_append (λ x. x ≡ b → ⊥) given (blocks_in_writes map_part) misses (map_misses b whole is.unreserved)))))
      (kept_old old edits whole are) (given_across old edits whole are))

  pub kept_unreserved : IsWhole old → AreEdits old.head.block old.directory edits → All (λ b. ¬ IsReserved old.head.block b) (kept_blocks old edits)
  kept_unreserved whole are =
      let Unreserved = λ (b : ℕ). ¬ IsReserved old.head.block b in
      All-from_recursion Unreserved (kept_blocks old edits) (each_weaker (IsOldBlock old) Unreserved (kept_blocks old edits) (λ b is. is.unreserved) (kept_old old edits whole are))
