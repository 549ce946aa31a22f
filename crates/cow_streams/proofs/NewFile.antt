-- A new file is the packed file of its streams once its plan is written.
use Rattle.std.proofs.Common.{◌≡◌, ◌≤◌, ◌<◌, ◌+◌, ◌-◌, ◌*◌, ◌/◌, ◌%◌, ◌++◌, ◌⊎◌, inl, inr, ℕ, zero, suc, max, cond, eqb, ◌||◌, false, List, [], ◌∷◌, length, map, take, drop, get_or, replicate, All, Option, refl, sym, ap, subst, ◌∙◌, arith, lit<}
use Rattle.std.specs.List.{AllByRecursion, range_with_len}
use Rattle.std.proofs.lemmas.Bool.{both_ways, cases_eq, cases_lt, eq-eqb, ne_eqb}
use Rattle.std.proofs.lemmas.List.{ext_get_or, get_or-append_right, get_or-drop, get_or-take, get_or_append_left, get_or_past, length-append, length-drop, length-take, map-append}
use Rattle.std.proofs.lemmas.List.Elements.{All-from_recursion}
use Rattle.std.proofs.lemmas.List.FromFn.{get_or-map-range_with_len, length-map-range_with_len}
use Rattle.std.proofs.lemmas.Nat.{div-add-mod', div-mul-add, div_below, mod-mul-add, mod_below, mul-le}
use Rattle.std.proofs.Math.Nat.{suc-mul}
use Rattle.srv_edge.specs.Disk.{splice, with_head}
use Rattle.srv_edge.specs.Torn.{length-front, torn-splice}
use Rattle.srv_edge.proofs.Ranges.{length-with_head}
use Rattle.msf_blocks.specs.declared.superblock.Super.{Super}
use Rattle.msf_blocks.specs.Blocks.{IsBlockSize, IsReserved, is_reserved, block_offset, map_block, map_blocks}
use Rattle.msf_blocks.specs.Superblock.{superblock_text}
use Rattle.msf_blocks.proofs.Sizes.{sized}
use Rattle.free_page_maps.specs.MapText.{map_text}
use Rattle.free_page_maps.proofs.MapTexts.{length-map_text}
use Rattle.msf_image.specs.declared.image.Image.{Image}
use Rattle.msf_image.specs.Packed.{IsPackable, block_of, directory_blocks_of, file_block, given_before, given_block, none_of, packed_content, packed_file, packed_image, packed_map_addr, packed_super, stream_blocks}
use Rattle.msf_image.specs.Reads.{active_map_blocks, block_bytes}
use Rattle.msf_image.proofs.Directories.{map_inside}
use Rattle.msf_image.proofs.Giving.{given_before_given, given_is, none_left, rises, unreserved_given}
use Rattle.msf_image.proofs.Laying.{length-block_of, read_laid}
use Rattle.msf_image.proofs.PackedFile.{length-packed_file, length-superblock_text}
use Rattle.msf_image.proofs.PackedLoops.{zeros_at}
use Rattle.msf_image.proofs.PackedStreams.{inside_packed, is_super}
use Rattle.msf_image.proofs.Sparing.{apart_blocks, map_reserved}
use Rattle.cow_streams.specs.Packing.{given_count, given_write, given_writes, new_plan}
use Rattle.cow_streams.specs.Planned.{Planned, Stands, Write, map_writes, with_writes}
use Rattle.cow_streams.proofs.Joined.{byte_of_block, each_place}
use Rattle.cow_streams.proofs.LayoutLoops.{map_write}
use Rattle.cow_streams.proofs.Lists.{Distinct, Misses, Rises, distinct_append, distinct_from_rises, each_append, each_at, each_behind, each_front, misses_by}
use Rattle.cow_streams.proofs.Writes.{all_stand, block_there, blocks_in_writes, each_map_write, map_blocks_of, map_rises}

-- ---- the plan as it is made

pub count_is : (size : ℕ) (streams : List (Option (List ℕ))) (image : Image) → IsBlockSize size → image ≡ packed_image size 0 streams → given_before size image.head.map_addr + 1 ≡ given_count size streams
unfolding packed_map_addr
count_is size streams image h same =
    let k = stream_blocks size streams + directory_blocks_of size streams in
    ap (λ (i : Image). given_before size i.head.map_addr + 1) same ∙ ap (λ n. n + 1) (given_before_given size k h)

pub plan_made : (size count : ℕ) (streams : List (Option (List ℕ))) (image : Image) (content map1 : List ℕ) (first writes : List Write) (p : Planned) → image ≡ packed_image size 0 streams → content ≡ packed_content size streams → map1 ≡ map_text size image.free → count ≡ given_count size streams
    → first ≡ map (given_write size content) (range_with_len 0 count) → writes ≡ first ++ map_writes image.head map1 → p ≡ record { image = image; writes = writes } → p ≡ new_plan size streams
plan_made size count streams image content map1 first writes p same holds is many front all made =
    let plan : Image → List Write → Planned = λ i ws. record { image = i; writes = ws } in
    let given : first ≡ given_writes size streams = front ∙ ap (λ c. map (given_write size c) (range_with_len 0 count)) holds ∙ ap (λ n. map (given_write size (packed_content size streams)) (range_with_len 0 n)) many in
    made ∙ ap (plan image) (all ∙ ap (λ ws. ws ++ map_writes image.head map1) given ∙ ap (λ m. given_writes size streams ++ map_writes image.head m) is)
    ∙ ap (λ (i : Image). plan i (given_writes size streams ++ map_writes i.head (map_text size i.free))) same

-- ---- bytes of a file that is written

length-spliced : (file : List ℕ) (at : ℕ) (bytes : List ℕ) → length (splice file at bytes) ≡ max (length file) (at + length bytes)
length-spliced file at bytes =
    let front : List ℕ = take at file ++ replicate (at - length file) 0 in
    omega (arith, length-front 0 file at, length-append front bytes, length-append (front ++ bytes) (drop (at + length bytes) file), length-drop (at + length bytes) file)

-- A write changes no byte apart from it. Past the end of a file stand zeros.
splice_else : (file : List ℕ) (at : ℕ) (bytes : List ℕ) (i : ℕ) → (i < at) ⊎ (at + length bytes ≤ i) → get_or (splice file at bytes) i 0 ≡ get_or file i 0
splice_else file at bytes i apart =
    let torn = torn-splice 0 file at bytes in
    let gap : List ℕ = replicate (at - length file) 0 in
    let front : List ℕ = take at file ++ gap in
    let rest = drop (at + length bytes) file in
    elim (cases_lt i (length file)) [
      | inl inside ↦ elim apart [ inl before ↦ torn.before i inside before | inr behind ↦ torn.behind i inside behind ]
      | inr past ↦
          let none : get_or file i 0 ≡ 0 = get_or_past file i 0 past in
          elim apart [
            | inl before ↦
                let len : length (take at file) ≡ length file = omega (arith, length-take at file, before, past) in
                get_or_append_left (front ++ bytes) rest 0 i (omega (arith, length-front 0 file at, length-append front bytes, before)) ∙ get_or_append_left front bytes 0 i (omega (arith, length-front 0 file at, before))
                ∙ get_or-append_right (take at file) gap (length file) i 0 len past ∙ zeros_at (at - length file) (i - length file) ∙ sym none
            | inr behind ↦ get_or_past (splice file at bytes) i 0 (omega (arith, length-spliced file at bytes, past, behind)) ∙ sym none
          ]
    ]

-- a byte of a block that no write has
writes_else : (size : ℕ) (file : List ℕ) (writes : List Write) (b r : ℕ) → r < size → AllByRecursion (λ w. length w.bytes ≡ size) writes → Misses (blocks_in_writes writes) b → get_or (with_writes size file writes) (b * size + r) 0 ≡ get_or file (b * size + r) 0
writes_else size file [] b r low whole misses = refl
writes_else size file (w ∷ writes) b r low whole misses =
    let at = block_offset size w.block in
    let len : length w.bytes ≡ size = whole.0 in
    let apart : (b * size + r < at) ⊎ (at + length w.bytes ≤ b * size + r) =
    elim (apart_blocks size b w.block (λ same. misses.0 (sym same))) [ inl before ↦ inl (omega (arith, before, low)) | inr behind ↦ inr (omega (arith, behind, len)) ] in
    writes_else size (splice file at w.bytes) writes b r low whole.1 misses.1 ∙ splice_else file at w.bytes (b * size + r) apart

-- writes of blocks below one make the file no longer than these
writes_within : (size n : ℕ) (file : List ℕ) (writes : List Write) → AllByRecursion (λ w. length w.bytes ≡ size) writes → AllByRecursion (λ w. w.block < n) writes → length file ≤ n * size → length (with_writes size file writes) ≤ n * size
writes_within size n file [] whole inside short = short
writes_within size n file (w ∷ writes) whole inside short =
    let at = block_offset size w.block in
    let end = mul-le (w.block + 1) size n size (omega (arith, inside.0)) (omega arith) in
    let next : (w.block + 1) * size ≡ w.block * size + size = omega (arith, suc-mul w.block size) in
    writes_within size n (splice file at w.bytes) writes whole.1 inside.1 (omega (arith, length-spliced file at w.bytes, whole.0, short, end, next))

block_byte : (size b r : ℕ) (file : List ℕ) → r < size → get_or (block_bytes size file b) r 0 ≡ get_or file (b * size + r) 0
block_byte size b r file low = get_or-take size (drop (b * size) file) r 0 low ∙ get_or-drop (b * size) file r 0

-- ---- the blocks of a laid file

module _ (size : ℕ) (head map1 content : List ℕ) (b : ℕ) (behind : b ≡ 0 → ⊥) where
  laid_map : b % size ≡ 1 → file_block size head map1 content b ≡ block_of size map1 (b / size)
  unfolding file_block
  laid_map one =
      ap (λ t. cond t (block_of size head 0) (cond (eqb (b % size) 1) (block_of size map1 (b / size)) (cond (eqb (b % size) 2) (block_of size [] 0) (block_of size content (given_before size b))))) (ne_eqb b 0 behind)
      ∙ ap (λ t. cond t (block_of size map1 (b / size)) (cond (eqb (b % size) 2) (block_of size [] 0) (block_of size content (given_before size b)))) (eq-eqb (b % size) 1 one)

  laid_other : (b % size ≡ 1 → ⊥) → b % size ≡ 2 → file_block size head map1 content b ≡ block_of size [] 0
  unfolding file_block
  laid_other not_one two =
      ap (λ t. cond t (block_of size head 0) (cond (eqb (b % size) 1) (block_of size map1 (b / size)) (cond (eqb (b % size) 2) (block_of size [] 0) (block_of size content (given_before size b))))) (ne_eqb b 0 behind)
      ∙ ap (λ t. cond t (block_of size map1 (b / size)) (cond (eqb (b % size) 2) (block_of size [] 0) (block_of size content (given_before size b)))) (ne_eqb (b % size) 1 not_one)
      ∙ ap (λ t. cond t (block_of size [] 0) (block_of size content (given_before size b))) (eq-eqb (b % size) 2 two)

  laid_given : (b % size ≡ 1 → ⊥) → (b % size ≡ 2 → ⊥) → file_block size head map1 content b ≡ block_of size content (given_before size b)
  unfolding file_block
  laid_given not_one not_two =
      ap (λ t. cond t (block_of size head 0) (cond (eqb (b % size) 1) (block_of size map1 (b / size)) (cond (eqb (b % size) 2) (block_of size [] 0) (block_of size content (given_before size b))))) (ne_eqb b 0 behind)
      ∙ ap (λ t. cond t (block_of size map1 (b / size)) (cond (eqb (b % size) 2) (block_of size [] 0) (block_of size content (given_before size b)))) (ne_eqb (b % size) 1 not_one)
      ∙ ap (λ t. cond t (block_of size [] 0) (block_of size content (given_before size b))) (ne_eqb (b % size) 2 not_two)

laid_front : (size : ℕ) (head map1 content : List ℕ) → file_block size head map1 content 0 ≡ block_of size head 0
unfolding file_block
laid_front size head map1 content = refl

-- ---- the writes of a new file

given_blocks_of : (size : ℕ) (content : List ℕ) (a n : ℕ) → blocks_in_writes (map (given_write size content) (range_with_len a n)) ≡ map (given_block size) (range_with_len a n)
given_blocks_of size content a zero = refl
given_blocks_of size content a (suc n) = ap (λ bs. given_block size a ∷ bs) (given_blocks_of size content (a + 1) n)

given_rises : (size a n : ℕ) → IsBlockSize size → Rises (map (given_block size) (range_with_len a n))
given_rises size a zero h = tt
given_rises size a (suc n) h = (
  each_place (λ y. given_block size a < y) (given_block size) (a + 1) n (λ k from to. rises size a k h (omega (arith, from))),
  given_rises size (a + 1) n h,
)

-- where a block of map 1 stands in its run, and a block that stands there
map_mod : (size j : ℕ) → 512 ≤ size → map_block size 1 j % size ≡ 1
map_mod size j least = let at : map_block size 1 j ≡ j * size + 1 = omega arith in ap (λ b. b % size) at ∙ mod-mul-add j size 1 (omega (arith, least))

map_div : (size j : ℕ) → 512 ≤ size → map_block size 1 j / size ≡ j
map_div size j least = let at : map_block size 1 j ≡ j * size + 1 = omega arith in ap (λ b. b / size) at ∙ div-mul-add j size 1 (omega (arith, least))

in_map : (size b map : ℕ) → b % size ≡ map → map_block size map (b / size) ≡ b
in_map size b map is = omega (arith, div-add-mod' b size, is)

module _ (size : ℕ) (streams : List (Option (List ℕ))) (p : IsPackable size streams) where
  abbrev head : Super
  head = packed_super size 0 streams

  abbrev content : List ℕ
  content = packed_content size streams

  abbrev text : List ℕ
  text = map_text size (none_of head.blocks)

  abbrev map_part : List Write
  map_part = map_writes head text

  abbrev writes : List Write
  writes = given_writes size streams ++ map_part

  abbrev laid : List ℕ
  laid = with_writes size [] writes

  least : 512 ≤ size
  least = (sized size p.block).least

  given_inside : (k : ℕ) → k < given_count size streams → given_block size k < head.blocks
  given_inside k lt = inside_packed size 0 streams p.block k (omega (arith, lt))

  map_lies : (j : ℕ) → j < map_blocks size head.blocks → map_block size 1 j < head.blocks
  map_lies j lt =
      let n = map_blocks size head.blocks in
      let all = map_inside head n (active_map_blocks head) (is_super size 0 streams (lit< tt) p) refl refl in
      let there : j < length (active_map_blocks head) = omega (arith, lt, length-map-range_with_len (map_block size 1) 0 n) in
      let at : get_or (active_map_blocks head) j 0 ≡ map_block size 1 j = get_or-map-range_with_len (map_block size 1) 0 n j j 0 lt (omega arith) in
      subst (λ b. b < head.blocks) at (all j 0 there)

  each : (P : Write → Type 0) → ((k : ℕ) → k < given_count size streams → P (given_write size content k)) → ((j : ℕ) → j < map_blocks size head.blocks → P (record { block = map_block size 1 j; bytes = block_of size text j })) → AllByRecursion P writes
  each P given maps =
      each_append P (given_writes size streams) map_part (each_place P (given_write size content) 0 (given_count size streams) (λ k from to. given k (omega (arith, to)))) (each_map_write P head text maps)

  all_whole : AllByRecursion (λ w. length w.bytes ≡ size) writes
  all_whole = each (λ w. length w.bytes ≡ size) (λ k lt. length-block_of size content k) (λ j lt. length-block_of size text j)

  all_within : AllByRecursion (λ w. w.block < head.blocks) writes
  all_within = each (λ w. w.block < head.blocks) given_inside map_lies

  blocks_split : blocks_in_writes writes ≡ map (given_block size) (range_with_len 0 (given_count size streams)) ++ map (map_block size 1) (range_with_len 0 (map_blocks size head.blocks))
  blocks_split =
      map-append (λ (w : Write). w.block) (given_writes size streams) map_part ∙ ap (λ bs. bs ++ blocks_in_writes map_part) (given_blocks_of size content 0 (given_count size streams))
      ∙ ap (λ bs. map (given_block size) (range_with_len 0 (given_count size streams)) ++ bs) (map_blocks_of head text 0 (map_blocks size head.blocks))

  -- a block that is neither given nor of map 1
  misses_all : (b : ℕ) → IsReserved size b → ((j : ℕ) → j < map_blocks size head.blocks → map_block size 1 j ≡ b → ⊥) → Misses (blocks_in_writes writes) b
  misses_all b reserved differ =
      let n = given_count size streams in
      let m = map_blocks size head.blocks in
      subst (λ bs. Misses bs b) (sym blocks_split)
      (each_append (λ x. x ≡ b → ⊥) (map (given_block size) (range_with_len 0 n)) (map (map_block size 1) (range_with_len 0 m))
      (misses_by (λ x. ¬ IsReserved size x) (map (given_block size) (range_with_len 0 n)) b (each_place (λ x. ¬ IsReserved size x) (given_block size) 0 n (λ k from to. unreserved_given size k p.block)) (λ free. free reserved))
      (each_place (λ x. x ≡ b → ⊥) (map_block size 1) 0 m (λ j from to. differ j (omega (arith, to)))))

  once : Distinct (blocks_in_writes writes)
  once =
      let n = given_count size streams in
      let m = map_blocks size head.blocks in
      let given = map (given_block size) (range_with_len 0 n) in
      let maps = map (map_block size 1) (range_with_len 0 m) in
      subst Distinct (sym blocks_split)
      (distinct_append given maps (distinct_from_rises given (given_rises size 0 n p.block)) (distinct_from_rises maps (map_rises head 0 m (omega (arith, least))))
      (each_place (λ b. Misses maps b) (given_block size) 0 n
      (λ k from to. misses_by (IsReserved size) maps (given_block size k) (each_place (IsReserved size) (map_block size 1) 0 m (λ j from to. map_reserved size 1 j p.block (omega arith) (omega arith))) (unreserved_given size k p.block))))

  stand : AllByRecursion (Stands size laid) writes
  stand = all_stand size [] writes (omega (arith, least)) all_whole once

  given_stands : (k : ℕ) → k < given_count size streams → block_bytes size laid (given_block size k) ≡ block_of size content k
  given_stands k lt =
      let n = given_count size streams in
      let f = given_write size content in
      subst (Stands size laid) (get_or-map-range_with_len f 0 n k k (f 0) lt (omega arith))
      (each_at (Stands size laid) (given_writes size streams) k (f 0) (each_front (Stands size laid) (given_writes size streams) map_part stand) (omega (arith, lt, length-map-range_with_len f 0 n)))

  map_stands : (j : ℕ) → j < map_blocks size head.blocks → block_bytes size laid (map_block size 1 j) ≡ block_of size text j
  map_stands j lt =
      let n = map_blocks size head.blocks in
      let f = map_write head text in
      subst (Stands size laid) (get_or-map-range_with_len f 0 n j j (f 0) lt (omega arith))
      (each_at (Stands size laid) map_part j (f 0) (each_behind (Stands size laid) (given_writes size streams) map_part stand) (omega (arith, lt, length-map-range_with_len f 0 n)))

  -- the block map is the last block that is given
  last_is : given_block size (stream_blocks size streams + directory_blocks_of size streams) + 1 ≡ head.blocks
  unfolding packed_map_addr
  last_is = refl

  length_laid : length laid ≡ head.blocks * size
  length_laid =
      let k = stream_blocks size streams + directory_blocks_of size streams in
      let last = given_block size k in
      let most = writes_within size head.blocks [] writes all_whole all_within (omega arith) in
      let there = block_there size last laid (omega (arith, least)) (ap length (given_stands k (omega arith)) ∙ length-block_of size content k) in
      let next : head.blocks * size ≡ last * size + size = ap (λ n. n * size) (sym last_is) ∙ omega (arith, suc-mul last size) in
      omega (arith, most, there, next)

  -- a byte of a block that is not written
  missed : (b r : ℕ) → r < size → Misses (blocks_in_writes writes) b → get_or laid (b * size + r) 0 ≡ 0
  missed b r low misses = writes_else size [] writes b r low all_whole misses

  -- ---- the file with its superblock

  abbrev front : List ℕ
  front = superblock_text head

  abbrev file : List ℕ
  file = with_head laid front

  byte_front : (i : ℕ) → i < 56 → get_or file i 0 ≡ get_or front i 0
  byte_front i lt = get_or_append_left front (drop (length front) laid) 0 i (omega (arith, lt, length-superblock_text head))

  byte_behind : (i : ℕ) → 56 ≤ i → get_or file i 0 ≡ get_or laid i 0
  byte_behind i le =
      let len = length-superblock_text head in
      let at : length front + (i - length front) ≡ i = omega (arith, len, le) in
      get_or-append_right front (drop (length front) laid) (length front) i 0 refl (omega (arith, len, le)) ∙ get_or-drop (length front) laid (i - length front) 0 ∙ ap (λ n. get_or laid n 0) at

  -- block 0
  first_is : (r : ℕ) → r < size → get_or file (0 * size + r) 0 ≡ get_or (file_block size front text content 0) r 0
  first_is r low =
      let at : 0 * size + r ≡ r = omega arith in
      let laid_as : get_or (file_block size front text content 0) r 0 ≡ get_or front r 0 =
      ap (λ bytes. get_or bytes r 0) (laid_front size front text content) ∙ byte_of_block size front 0 r low ∙ ap (λ n. get_or front n 0) at in
      ap (λ n. get_or file n 0) at
      ∙ elim (cases_lt r 56) [
        | inl lt ↦ byte_front r lt ∙ sym laid_as
        | inr le ↦
            byte_behind r le ∙ ap (λ n. get_or laid n 0) (sym at) ∙ missed 0 r low (misses_all 0 refl (λ j lt same. omega (arith, same)))
            ∙ sym (laid_as ∙ get_or_past front r 0 (omega (arith, le, length-superblock_text head)))
      ]

  unreserved : (b : ℕ) → (b ≡ 0 → ⊥) → (b % size ≡ 1 → ⊥) → (b % size ≡ 2 → ⊥) → ¬ IsReserved size b
  unreserved b nonzero one two reserved =
      let none : is_reserved size b ≡ false =
      ap (λ t. t || eqb (b % size) 1 || eqb (b % size) 2) (ne_eqb b 0 nonzero) ∙ ap (λ t. false || t || eqb (b % size) 2) (ne_eqb (b % size) 1 one) ∙ ap (λ t. false || false || t) (ne_eqb (b % size) 2 two) in
      both_ways (is_reserved size b) none reserved

  enough : (b : ℕ) → (b ≡ 0 → ⊥) → (b % size ≡ 1 → ⊥) → (b % size ≡ 2 → ⊥) → 3 ≤ b
  enough b nonzero one two =
      elim (cases_lt b 3) [
        | inr le ↦ le
        | inl lt ↦
            let at : 0 * size + b ≡ b = omega arith in
            let place : b % size ≡ b = ap (λ a. a % size) (sym at) ∙ mod-mul-add 0 size b (omega (arith, lt, least)) in
            elim (cases_eq b 1) [ inl is ↦ absurd (one (place ∙ is)) | inr more ↦ absurd (two (omega (arith, place, lt, nonzero, more))) ]
      ]

  given_below : (b k : ℕ) → b < head.blocks → given_block size k ≡ b → k < given_count size streams
  given_below b k inside at =
      let last = stream_blocks size streams + directory_blocks_of size streams in
      elim (cases_lt k (given_count size streams)) [
        | inl lt ↦ lt
        | inr past ↦ let above = rises size last k p.block (omega (arith, past)) in absurd (omega (arith, above, at, inside, last_is))
      ]

  -- a block behind it
  other_is : (b r : ℕ) → b < head.blocks → (b ≡ 0 → ⊥) → r < size → get_or laid (b * size + r) 0 ≡ get_or (file_block size front text content b) r 0
  other_is b r inside behind low =
      let n = map_blocks size head.blocks in
      elim (cases_eq (b % size) 1) [
        | inl one ↦
            let j = b / size in
            let at = in_map size b 1 one in
            let held : get_or (file_block size front text content b) r 0 ≡ get_or (block_of size text j) r 0 = ap (λ bytes. get_or bytes r 0) (laid_map size front text content b behind one) in
            elim (cases_lt j n) [
              | inl lt ↦
                  sym (block_byte size b r laid low) ∙ ap (λ a. get_or (block_bytes size laid a) r 0) (sym at) ∙ ap (λ bytes. get_or bytes r 0) (map_stands j lt) ∙ sym held
              | inr past ↦
                  let many = mul-le n size j size past (omega arith) in
                  missed b r low (misses_all b (subst (IsReserved size) at (map_reserved size 1 j p.block (omega arith) (omega arith))) (λ i lt same. let place = sym (map_div size i least) ∙ ap (λ a. a / size) same in omega (arith, place, lt, past)))
                  ∙ sym (held ∙ byte_of_block size text j r low ∙ get_or_past text (j * size + r) 0 (omega (arith, many, length-map_text size (none_of head.blocks))))
            ]
        | inr not_one ↦
            elim (cases_eq (b % size) 2) [
              | inl two ↦
                  let at = in_map size b 2 two in
                  missed b r low (misses_all b (subst (IsReserved size) at (map_reserved size 2 (b / size) p.block (omega arith) (omega arith))) (λ i lt same. not_one (sym (ap (λ a. a % size) same) ∙ map_mod size i least)))
                  ∙ sym (ap (λ bytes. get_or bytes r 0) (laid_other size front text content b behind not_one two) ∙ byte_of_block size [] 0 r low)
              | inr not_two ↦
                  let k = given_before size b in
                  let free : ¬ IsReserved size b = unreserved b behind not_one not_two in
                  let at = none_left size b p.block (enough b behind not_one not_two) free in
                  let lt : k < given_count size streams = given_below b k inside at in
                  sym (block_byte size b r laid low) ∙ ap (λ a. get_or (block_bytes size laid a) r 0) (sym at) ∙ ap (λ bytes. get_or bytes r 0) (given_stands k lt) ∙ sym (ap (λ bytes. get_or bytes r 0) (laid_given size front text content b behind not_one not_two))
            ]
      ]

  -- a byte of the file
  byte_is : (b r : ℕ) → b < head.blocks → r < size → get_or file (b * size + r) 0 ≡ get_or (file_block size front text content b) r 0
  byte_is b r inside low =
      elim (cases_eq b 0) [
        | inl none ↦ subst (λ a. get_or file (a * size + r) 0 ≡ get_or (file_block size front text content a) r 0) (sym none) (first_is r low)
        | inr behind ↦ let far = mul-le 1 512 b size (omega (arith, behind)) least in byte_behind (b * size + r) (omega (arith, far)) ∙ other_is b r inside behind low
      ]

  packed_block : (b : ℕ) → b < head.blocks → block_bytes size (packed_file size 0 streams) b ≡ file_block size front text content b
  unfolding packed_file
  packed_block b inside = read_laid size front text content head.blocks b inside

  pub packs : file ≡ packed_file size 0 streams
  packs =
      let packed = packed_file size 0 streams in
      let some : 0 < size = omega (arith, least) in
      let long = mul-le 1 512 head.blocks size (omega arith) least in
      let len : length file ≡ head.blocks * size = omega (arith, length-with_head front laid, length-superblock_text head, length_laid, long) in
      ext_get_or 0 file packed (len ∙ sym (length-packed_file size 0 streams))
      (λ i lt.
      let b = i / size in
      let r = i % size in
      let split : b * size + r ≡ i = div-add-mod' i size in
      let low : r < size = mod_below i size some in
      let inside : b < head.blocks = div_below i size head.blocks some (omega (arith, lt, len)) in
      ap (λ n. get_or file n 0) (sym split) ∙ byte_is b r inside low ∙ sym (ap (λ bytes. get_or bytes r 0) (packed_block b inside)) ∙ block_byte size b r packed low ∙ ap (λ n. get_or packed n 0) split)

  pub placed : All (λ w. (1 ≤ w.block) × (w.block < head.blocks) × (length w.bytes ≡ size)) writes
  placed =
      All-from_recursion (λ w. (1 ≤ w.block) × (w.block < head.blocks) × (length w.bytes ≡ size)) writes
      (each (λ w. (1 ≤ w.block) × (w.block < head.blocks) × (length w.bytes ≡ size)) (λ k lt. let is = (given_is size k p.block).least in (omega (arith, is), given_inside k lt, length-block_of size content k))
      (λ j lt. (omega arith, map_lies j lt, length-block_of size text j)))
