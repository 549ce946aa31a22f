-- A file with the bytes from which an image is read reads as the same image.
use Rattle.std.proofs.Common.{◌≡◌, ◌≤◌, ◌<◌, ◌+◌, ◌-◌, ◌*◌, ◌%◌, ◌++◌, ◌||◌, ℕ, zero, suc, Bool, true, false, List, [], ◌∷◌, length, map, take, drop, get_or, All, Option, Some, None, refl, sym, ap, subst, ◌∙◌, eqb, inl, inr, arith}
use Rattle.std.specs.List.{flat_map, list_any}
use Rattle.std.proofs.lemmas.Bool.{both_ways, cases_Bool, cases_eq, cases_lt, eq-eqb, eqb-true}
use Rattle.std.proofs.lemmas.List.{get_or-append-add, get_or_append_left, length-append, length-drop, length-take-le}
use Rattle.std.proofs.lemmas.List.Elements.{All-append, All-head, All-tail}
use Rattle.std.proofs.lemmas.List.FromFn.{get_or-map-range_with_len, length-map-range_with_len}
use Rattle.std.proofs.lemmas.Nat.{mod-mul-add, mul-le}
use Rattle.std.proofs.Math.Nat.{suc-mul}
use Rattle.srv_edge.specs.Disk.{Torn, with_head}
use Rattle.srv_edge.proofs.Ranges.{headed_holds, headed_keeps, length-with_head, torn_keeps}
use Rattle.msf_blocks.specs.declared.superblock.Super.{Super}
use Rattle.msf_blocks.specs.Bits.{has_bit}
use Rattle.msf_blocks.specs.Blocks.{IsBlockSize, IsMap, IsReserved, block_offset, blocks_of_size, map_block, map_blocks}
use Rattle.msf_blocks.specs.Superblock.{superblock_text}
use Rattle.msf_blocks.proofs.Sizes.{sized}
use Rattle.free_page_maps.specs.FreeBlocks.{FreeBlocks, free_in, is_free}
use Rattle.free_page_maps.proofs.Listing.{unreserved_where-unreserved}
use Rattle.stream_directory.specs.Directory.{AreUsable, Spells, StreamBlocks, blocks_in}
use Rattle.stream_directory.specs.Reading.{words_in}
use Rattle.msf_image.specs.declared.image.Image.{Image}
use Rattle.msf_image.specs.Reads.{IsWhole, active_map_blocks, block_bytes, bytes_of_blocks, directory_blocks, free_blocks_in, used_blocks}
use Rattle.msf_image.specs.Relation.{IsApart, IsSpare, Reads, SameSource, SparesSource, contents_in, directory_in, source_blocks, stream_in, used_in}
use Rattle.msf_image.proofs.Directories.{free_inside, free_rising, map_inside}
use Rattle.msf_image.proofs.Joining.{block_inside}
use Rattle.msf_image.proofs.Listed.{listed_fit, usable_inside}
use Rattle.msf_image.proofs.Relating.{directory_read}

-- ---- parts of lists of which all elements have P

all_front : (P : ℕ → Type 0) (xs ys : List ℕ) → All P (xs ++ ys) → All P xs
all_front P xs ys all k d lt = subst P (get_or_append_left xs ys d k lt) (all k d (omega (arith, lt, length-append xs ys)))

all_behind : (P : ℕ → Type 0) (xs ys : List ℕ) → All P (xs ++ ys) → All P ys
all_behind P xs ys all k d lt = subst P (get_or-append-add xs ys k d) (all (length xs + k) d (omega (arith, lt, length-append xs ys)))

all_each : (P Q : ℕ → Type 0) (xs : List ℕ) → ((b : ℕ) → P b → Q b) → All P xs → All Q xs
all_each P Q xs gives all k d lt = gives (get_or xs k d) (all k d lt)

-- a number that is listed has what all have
listed_has : (P : ℕ → Type 0) (xs : List ℕ) (b : ℕ) → All P xs → list_any (λ x. eqb x b) xs ≡ true → P b
listed_has P [] b all e = absurd cc
listed_has P (x ∷ xs) b all e =
    elim (cases_Bool (eqb x b)) [
      | inl here ↦ subst P (eqb-true x b here) (All-head P x xs all)
      | inr not_here ↦ listed_has P xs b (All-tail P x xs all) (sym (ap (λ t. t || list_any (λ x. eqb x b) xs) not_here) ∙ e)
    ]

-- ---- the same bytes

module _ (size : ℕ) (old new : List ℕ) where
  abbrev pub IsSame : ℕ → Type 0
  IsSame b = block_bytes size new b ≡ block_bytes size old b

  pub blocks_same : (blocks : List ℕ) → All IsSame blocks → bytes_of_blocks size new blocks ≡ bytes_of_blocks size old blocks
  blocks_same [] same = refl
  blocks_same (b ∷ blocks) same =
      ap (λ bytes. bytes ++ bytes_of_blocks size new blocks) (All-head IsSame b blocks same)
      ∙ ap (λ bytes. block_bytes size old b ++ bytes) (blocks_same blocks (All-tail IsSame b blocks same))

stream_same : (s : Super) (old new : List ℕ) (stream : Option StreamBlocks) → All (IsSame s.block old new) (blocks_in stream) → stream_in new s stream ≡ stream_in old s stream
stream_same s old new None same = refl
stream_same s old new (Some stream) same = ap (λ bytes. Some (take stream.size bytes)) (blocks_same s.block old new stream.blocks same)

streams_same : (s : Super) (old new : List ℕ) (streams : List (Option StreamBlocks)) → All (IsSame s.block old new) (flat_map blocks_in streams) → map (stream_in new s) streams ≡ map (stream_in old s) streams
streams_same s old new [] same = refl
streams_same s old new (x ∷ streams) same =
    ap (λ y. y ∷ map (stream_in new s) streams) (stream_same s old new x (all_front (IsSame s.block old new) (blocks_in x) (flat_map blocks_in streams) same))
    ∙ ap (λ ys. stream_in old s x ∷ ys) (streams_same s old new streams (all_behind (IsSame s.block old new) (blocks_in x) (flat_map blocks_in streams) same))

others_same : (s : Super) (old new : List ℕ) (streams : List (Option StreamBlocks)) → All (IsSame s.block old new) (flat_map blocks_in streams) → map (stream_in new s) (drop 1 streams) ≡ map (stream_in old s) (drop 1 streams)
others_same s old new [] same = refl
others_same s old new (x ∷ streams) same = streams_same s old new streams (all_behind (IsSame s.block old new) (blocks_in x) (flat_map blocks_in streams) same)

free_same : (s : Super) (old new : List ℕ) → All (IsSame s.block old new) (active_map_blocks s) → free_blocks_in new s ≡ free_blocks_in old s
unfolding free_blocks_in
free_same s old new same = ap (free_in s.block s.blocks) (blocks_same s.block old new (active_map_blocks s) same)

pub same_reads : (old new : List ℕ) (limit : ℕ) (image : Image) (streams : List (Option (List ℕ))) → Reads old limit image streams → SameSource image old new → Reads new limit image streams
same_reads old new limit image streams r same =
    let s = image.head in
    let P = IsSame s.block old new in
    let listed = directory_blocks old s in
    let used : All P (used_in old image) = all_front P (used_in old image) (active_map_blocks s) same.blocks in
    let map_same : All P (active_map_blocks s) = all_behind P (used_in old image) (active_map_blocks s) same.blocks in
    let front : All P (s.map_addr ∷ listed) = all_front P (s.map_addr ∷ listed) (flat_map blocks_in image.directory) used in
    let behind : All P (flat_map blocks_in image.directory) = all_behind P (s.map_addr ∷ listed) (flat_map blocks_in image.directory) used in
    let lists : directory_blocks new s ≡ listed = ap (λ bytes. take (blocks_of_size s.block s.dir_bytes) (words_in bytes)) (All-head P s.map_addr listed front) in
    let text : directory_in new s ≡ directory_in old s =
    ap (λ blocks. take s.dir_bytes (bytes_of_blocks s.block new blocks)) lists ∙ ap (take s.dir_bytes) (blocks_same s.block old new listed (All-tail P s.map_addr listed front)) in
    let uses : used_in new image ≡ used_in old image = ap (λ blocks. used_blocks (s.map_addr ∷ blocks) image.directory) lists in
    record {
      head = r.head;
      text = same.head ∙ r.text;
      limited = r.limited;
      inside = same.long;
      spelled = subst (λ bytes. Spells s.block bytes image.directory) (sym text) r.spelled;
      sized = r.sized;
      usable = subst (AreUsable s []) (sym uses) r.usable;
      free = r.free ∙ sym (free_same s old new map_same);
      none_free = subst (All (λ b. is_free image.free b ≡ false)) (sym uses) r.none_free;
      contents = r.contents ∙ sym (others_same s old new image.directory behind);
    }

-- ---- a torn write

pub torn_block : (size at n b : ℕ) (old new : List ℕ) → Torn at n old new → block_offset size b + size ≤ length old → IsApart size at n b → block_bytes size new b ≡ block_bytes size old b
torn_block size at n b old new torn inside apart = torn_keeps at n (block_offset size b) size old new torn inside apart

-- the blocks from which an image is read lie in the file
pub source_inside : (file : List ℕ) (limit : ℕ) (image : Image) (streams : List (Option (List ℕ))) → Reads file limit image streams → All (λ b. b < image.head.blocks) (source_blocks file image)
source_inside file limit image streams r =
    let s = image.head in
    All-append (λ b. b < s.blocks) (used_in file image) (active_map_blocks s) (usable_inside s [] (used_in file image) r.usable) (map_inside s (map_blocks s.block s.blocks) (active_map_blocks s) r.head refl refl)

pub torn_reads : (old new : List ℕ) (limit : ℕ) (image : Image) (streams : List (Option (List ℕ))) (at n : ℕ) → Reads old limit image streams → SparesSource image old at n → Torn at n old new → Reads new limit image streams
torn_reads old new limit image streams at n r spares torn =
    let s = image.head in
    let inside = source_inside old limit image streams r in
    let least = mul-le 4 512 s.blocks s.block r.head.least_blocks (sized s.block r.head.block).least in
    let head : take 56 new ≡ take 56 old = torn_keeps at n 0 56 old new torn (omega (arith, least, r.inside)) (inl (omega (arith, spares.head))) in
    same_reads old new limit image streams r (record {
      head = head;
      blocks = λ k d lt. let b = get_or (source_blocks old image) k d in torn_block s.block at n b old new torn (block_inside b s.blocks s.block (length old) (inside k d lt) r.inside) (spares.blocks k d lt);
      long = omega (arith, r.inside, torn.no_shorter);
    })

-- they are unreserved, or blocks of the active map, and so stand behind block 0
usable_unreserved : (s : Super) (earlier blocks : List ℕ) → AreUsable s earlier blocks → All (λ b. ¬ IsReserved s.block b) blocks
usable_unreserved s earlier [] usable = λ k d lt. absurd (omega (arith, lt))
usable_unreserved s earlier (b ∷ blocks) usable = λ k d lt. each (usable_unreserved s (earlier ++ b ∷ []) blocks usable.3) k d lt
  where
    each : All (λ b. ¬ IsReserved s.block b) blocks → (k d : ℕ) → k < length (b ∷ blocks) → ¬ IsReserved s.block (get_or (b ∷ blocks) k d)
    each others zero d lt = usable.0
    each others (suc k) d lt = others k d (omega (arith, lt))

behind_head : (size b : ℕ) → ¬ IsReserved size b → 1 ≤ b
behind_head size zero unreserved = absurd (unreserved refl)
behind_head size (suc b) unreserved = omega arith

pub map_number : (map : ℕ) → IsMap map → (1 ≤ map) × (map ≤ 2)
map_number map is = elim is [ inl one ↦ (omega (arith, one), omega (arith, one)) | inr two ↦ (omega (arith, two), omega (arith, two)) ]

-- what holds of each block of the active map holds of all of them
map_each : (P : ℕ → Type 0) (s : Super) → ((j : ℕ) → P (map_block s.block s.map j)) → All P (active_map_blocks s)
map_each P s holds k d lt =
    let n = map_blocks s.block s.blocks in
    let there : k < n = omega (arith, lt, length-map-range_with_len (map_block s.block s.map) 0 n) in
    subst P (sym (get_or-map-range_with_len (map_block s.block s.map) 0 n k k d there (omega arith))) (holds k)

pub source_behind : (file : List ℕ) (limit : ℕ) (image : Image) (streams : List (Option (List ℕ))) → Reads file limit image streams → All (λ b. 1 ≤ b) (source_blocks file image)
source_behind file limit image streams r =
    let s = image.head in
    All-append (λ b. 1 ≤ b) (used_in file image) (active_map_blocks s)
    (all_each (λ b. ¬ IsReserved s.block b) (λ b. 1 ≤ b) (used_in file image) (behind_head s.block) (usable_unreserved s [] (used_in file image) r.usable))
    (map_each (λ b. 1 ≤ b) s (λ j. omega (arith, (map_number s.map r.head.map).0)))

-- the superblock written again
pub headed_reads : (file : List ℕ) (limit : ℕ) (image : Image) (streams : List (Option (List ℕ))) → Reads file limit image streams → Reads (with_head file (superblock_text image.head)) limit image streams
unfolding superblock_text
headed_reads file limit image streams r =
    let s = image.head in
    let text = superblock_text s in
    let len : length text ≡ 56 = refl in
    let least = (sized s.block r.head.block).least in
    let behind = source_behind file limit image streams r in
    same_reads file (with_head file text) limit image streams r (record {
      head = headed_holds text file ∙ sym r.text;
      blocks = λ k d lt.
          let b = get_or (source_blocks file image) k d in
          let far = mul-le 1 512 b s.block (behind k d lt) least in
          ap (take s.block) (headed_keeps text file (block_offset s.block b) (omega (arith, far)));
      long = omega (arith, r.inside, length-with_head text file);
    })

-- another superblock changes no stream's content
pub headed_contents : (image : Image) (file head : List ℕ) → IsWhole image → length head ≡ 56 → contents_in (with_head file head) image ≡ contents_in file image
headed_contents image file head whole len =
    let s = image.head in
    let P = IsSame s.block file (with_head file head) in
    let least = (sized s.block whole.head.block).least in
    let front = s.map_addr ∷ whole.blocks in
    let same : (b : ℕ) → ¬ IsReserved s.block b → P b =
    λ b free. ap (take s.block) (headed_keeps head file (block_offset s.block b) (omega (arith, len, mul-le 1 512 b s.block (behind_head s.block b free) least))) in
    let all = all_each (λ b. ¬ IsReserved s.block b) P (used_blocks front image.directory) same (usable_unreserved s [] (used_blocks front image.directory) whole.usable) in
    others_same s file (with_head file head) image.directory (all_behind P front (flat_map blocks_in image.directory) all)

-- ---- spare blocks

-- two blocks that are not one lie apart
pub apart_blocks : (size a b : ℕ) → (a ≡ b → ⊥) → IsApart size (block_offset size b) size a
apart_blocks size a b differ =
    elim (cases_lt a b) [
      | inl below ↦ inl (omega (arith, mul-le (a + 1) size b size (omega (arith, below)) (omega arith), suc-mul a size))
      | inr above ↦
          let more : b < a = lt_of a b above differ in
          inr (omega (arith, mul-le (b + 1) size a size (omega (arith, more)) (omega arith), suc-mul b size))
    ]
  where
    lt_of : (a b : ℕ) → b ≤ a → (a ≡ b → ⊥) → b < a
    lt_of a b le differ = omega (arith, le, differ)

free_told : (file : List ℕ) (s : Super) → free_blocks_in file s ≡ free_in s.block s.blocks (bytes_of_blocks s.block file (active_map_blocks s))
unfolding free_blocks_in
free_told file s = refl

pub free_is : (file : List ℕ) (limit : ℕ) (image : Image) (streams : List (Option (List ℕ))) → Reads file limit image streams
    → image.free ≡ free_in image.head.block image.head.blocks (bytes_of_blocks image.head.block file (active_map_blocks image.head))
free_is file limit image streams r = r.free ∙ free_told file image.head

pub free_unreserved : (size blocks : ℕ) (maps : List ℕ) (m : FreeBlocks) → m ≡ free_in size blocks maps → All (λ b. ¬ IsReserved size b) m.free
free_unreserved size blocks maps m is = subst (λ m. All (λ b. ¬ IsReserved size b) m.free) (sym is) (unreserved_where-unreserved size blocks (has_bit maps))

-- a block of a map is reserved
pub map_reserved : (size map j : ℕ) → IsBlockSize size → 1 ≤ map → map ≤ 2 → IsReserved size (map_block size map j)
map_reserved size map j h least most =
    let b = map_block size map j in
    let at : b ≡ j * size + map = omega arith in
    let place : b % size ≡ map = ap (λ m. m % size) at ∙ mod-mul-add j size map (omega (arith, most, (sized size h).least)) in
    elim (cases_eq map 1) [
      | inl one ↦ ap (λ t. eqb b 0 || t || eqb (b % size) 2) (eq-eqb (b % size) 1 (place ∙ one)) ∙ middle (eqb b 0) (eqb (b % size) 2)
      | inr more ↦ ap (λ t. eqb b 0 || eqb (b % size) 1 || t) (eq-eqb (b % size) 2 (omega (arith, place, more, least, most))) ∙ last (eqb b 0 || eqb (b % size) 1)
    ]
  where
    middle : (t u : Bool) → (t || true || u) ≡ true
    middle true u = refl
    middle false u = refl

    last : (t : Bool) → (t || true) ≡ true
    last true = refl
    last false = refl

-- blocks of two maps differ
maps_differ : (size map i j : ℕ) → IsBlockSize size → 1 ≤ map → map ≤ 2 → map_block size map i ≡ map_block size (3 - map) j → ⊥
maps_differ size map i j h least most same =
    let large = (sized size h).least in
    let one : (map + i * size) % size ≡ map = ap (λ m. m % size) (omega arith) ∙ mod-mul-add i size map (omega (arith, most, large)) in
    let two : (3 - map + j * size) % size ≡ 3 - map = ap (λ m. m % size) (omega arith) ∙ mod-mul-add j size (3 - map) (omega (arith, least, large)) in
    omega (arith, sym one ∙ ap (λ b. b % size) same ∙ two, least, most)

-- the image is not read from a spare block
pub spare_apart : (file : List ℕ) (limit : ℕ) (image : Image) (streams : List (Option (List ℕ))) (b : ℕ) → Reads file limit image streams → IsSpare image b → All (λ a. a ≡ b → ⊥) (source_blocks file image)
spare_apart file limit image streams b r spare =
    let s = image.head in
    let m = map_number s.map r.head.map in
    let inside = source_inside file limit image streams r in
    let free = free_unreserved s.block s.blocks _ image.free (free_is file limit image streams r) in
    let unreserved = usable_unreserved s [] (used_in file image) r.usable in
    elim spare [
      | inl is_one ↦
          let lies = listed_has (λ b. ¬ IsReserved s.block b) image.free.free b free is_one in
          All-append (λ a. a ≡ b → ⊥) (used_in file image) (active_map_blocks s)
          (all_each (λ a. is_free image.free a ≡ false) (λ a. a ≡ b → ⊥) (used_in file image) (λ a none same. both_ways (is_free image.free b) (subst (λ x. is_free image.free x ≡ false) same none) is_one) r.none_free)
          (map_each (λ a. a ≡ b → ⊥) s (λ j same. lies (subst (IsReserved s.block) same (map_reserved s.block s.map j r.head.block m.0 m.1))))
      | inr others ↦
          elim others [
            | inl past ↦ all_each (λ a. a < s.blocks) (λ a. a ≡ b → ⊥) (source_blocks file image) (λ a lt same. omega (arith, past, lt, same)) inside
            | inr map_spare ↦
                All-append (λ a. a ≡ b → ⊥) (used_in file image) (active_map_blocks s)
                (all_each (λ a. ¬ IsReserved s.block a) (λ a. a ≡ b → ⊥) (used_in file image) (λ a lies same. lies (subst (IsReserved s.block) (sym (same ∙ map_spare.1)) (map_reserved s.block (3 - s.map) map_spare.0 r.head.block (omega (arith, m.1)) (omega (arith, m.0))))) unreserved)
                (map_each (λ a. a ≡ b → ⊥) s (λ i same. maps_differ s.block s.map i map_spare.0 r.head.block m.0 m.1 (same ∙ map_spare.1)))
          ]
    ]

spare_behind : (file : List ℕ) (limit : ℕ) (image : Image) (streams : List (Option (List ℕ))) (b : ℕ) → Reads file limit image streams → IsSpare image b → 1 ≤ b
spare_behind file limit image streams b r spare =
    let s = image.head in
    elim spare [
      | inl is_one ↦ behind_head s.block b (listed_has (λ b. ¬ IsReserved s.block b) image.free.free b (free_unreserved s.block s.blocks _ image.free (free_is file limit image streams r)) is_one)
      | inr others ↦ elim others [ inl past ↦ omega (arith, past, r.head.least_blocks) | inr map_spare ↦ omega (arith, map_spare.1, (map_number s.map r.head.map).1) ]
    ]

pub spare_block : (file : List ℕ) (limit : ℕ) (image : Image) (streams : List (Option (List ℕ))) (b : ℕ) → Reads file limit image streams → IsSpare image b → SparesSource image file (block_offset image.head.block b) image.head.block
spare_block file limit image streams b r spare =
    let s = image.head in
    record {
      head = omega (arith, mul-le 1 512 b s.block (spare_behind file limit image streams b r spare) (sized s.block r.head.block).least);
      blocks = all_each (λ a. a ≡ b → ⊥) (IsApart s.block (block_offset s.block b) s.block) (source_blocks file image) (λ a differ. apart_blocks s.block a b differ) (spare_apart file limit image streams b r spare);
    }

-- ---- what reads is whole

pub whole_reads : (file : List ℕ) (limit : ℕ) (image : Image) (streams : List (Option (List ℕ))) → Reads file limit image streams → IsWhole image
whole_reads file limit image streams r =
    let s = image.head in
    let is = free_is file limit image streams r in
    let block_map = block_bytes s.block file s.map_addr in
    let long = block_inside s.map_addr s.blocks s.block (length file) r.head.map_addr_inside r.inside in
    let len : length block_map ≡ s.block = length-take-le s.block (drop (block_offset s.block s.map_addr) file) (omega (arith, long, length-drop (block_offset s.block s.map_addr) file)) in
    record {
      head = r.head;
      blocks = directory_blocks file s;
      count = length-take-le (blocks_of_size s.block s.dir_bytes) (words_in block_map) (listed_fit s block_map r.head len);
      directory = directory_read file limit image streams r;
      usable = r.usable;
      none_free = r.none_free;
      size = ap (λ m. m.blocks) is;
      inside = free_inside s.block s.blocks _ image.free is;
      unreserved = free_unreserved s.block s.blocks _ image.free is;
      rising = free_rising s.block s.blocks _ image.free is;
    }
