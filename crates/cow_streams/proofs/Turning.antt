-- A file that takes the plan reads as the edited streams, and one that does not reads as before.
use Rattle.std.proofs.Common.{◌≡◌, ◌≤◌, ◌<◌, ◌*◌, ◌^◌, ◌++◌, ℕ, not, false, List, [], ◌∷◌, length, map, take, drop, get_or, All, Option, refl, sym, ap, subst, ◌∙◌, eqb, arith}
use Rattle.std.specs.List.{AllByRecursion, flat_map, list_any, range_with_len}
use Rattle.std.proofs.lemmas.List.{append-nil, drop_at, length-drop, length-take-le}
use Rattle.std.proofs.lemmas.List.Elements.{recursion_from_All}
use Rattle.std.proofs.lemmas.List.Folds.{flat_map-map}
use Rattle.std.proofs.lemmas.List.FromFn.{get_or-map-range_with_len, length-map-range_with_len}
use Rattle.msf_blocks.specs.declared.superblock.Super.{Super}
use Rattle.msf_blocks.specs.Blocks.{IsBlockSize, blocks_of_size, map_block, map_blocks}
use Rattle.msf_blocks.specs.Edit.{StreamEdit}
use Rattle.msf_blocks.proofs.Sizes.{sized}
use Rattle.free_page_maps.specs.FreeBlocks.{free_in, is_free}
use Rattle.free_page_maps.specs.MapText.{map_text}
use Rattle.free_page_maps.proofs.MapTexts.{length-map_text, map_again}
use Rattle.stream_directory.specs.Directory.{AreSized, AreUsable, StreamBlocks, blocks_in, directory_text, stream_at, word}
use Rattle.stream_directory.specs.Reading.{words_in}
use Rattle.stream_directory.proofs.Streams.{Spells-directory_text}
use Rattle.msf_image.specs.declared.image.Image.{Image}
use Rattle.msf_image.specs.Packed.{block_of}
use Rattle.msf_image.specs.Reads.{HasBlocks, IsWhole, active_map_blocks, block_bytes, bytes_of_blocks, directory_blocks, free_blocks_in, used_blocks}
use Rattle.msf_image.specs.Relation.{Reads, contents_in, directory_in, source_blocks, stream_in}
use Rattle.msf_image.proofs.Joining.{block_inside}
use Rattle.msf_image.proofs.Laying.{run_is, run_of}
use Rattle.msf_image.proofs.PackedFile.{listed_short, map_words}
use Rattle.msf_image.proofs.Sparing.{same_reads, source_behind, source_inside, spare_apart}
use Rattle.cow_streams.specs.Edits.{AreEdits, IsCovered, edited, edited_from, len_after}
use Rattle.cow_streams.specs.Layout.{all_parts, kept_in, laid, layouts, pieces}
use Rattle.cow_streams.specs.Plan.{IsSparing, KeepsOld, TakesNew}
use Rattle.cow_streams.specs.Planned.{FitsDirectory, Stands, Write, block_writes, given_blocks, kept_blocks, new_blocks, new_dir_blocks, new_dir_bytes, new_directory, new_free, new_head, new_image, new_layouts, new_listed, new_map_addr, new_pieces, planned, writes_to, written_count}
use Rattle.cow_streams.proofs.Contents.{streams_after}
use Rattle.cow_streams.proofs.Editing.{IsAligned, are_aligned}
use Rattle.cow_streams.proofs.Joined.{text_again}
use Rattle.cow_streams.proofs.Lists.{each_at, each_behind, each_front, each_weaker}
use Rattle.cow_streams.proofs.Numbering.{stands_joined, writes-append, writes_front}
use Rattle.cow_streams.proofs.Supplying.{has_blocks_with}
use Rattle.cow_streams.proofs.Wholeness.{IsOldBlock, all_inside, covered_from, each_part, free_blocks, front, given_split, is_sized, is_super, length_directory, length_front, length_listed, none_free, none_skipped, old_blocks, used_usable}
use Rattle.cow_streams.proofs.Writes.{length_pieces, map_part, pieces_whole, stands_inside}

-- ---- the old superblock

pub keeps_old : (limit : ℕ) (old : Image) (new : Super) (writes : List Write) → All (IsSparing old new) writes → (streams : List (Option (List ℕ))) (file other : List ℕ) → Reads file limit old streams → KeepsOld old writes file other → Reads other limit old streams
keeps_old limit old new writes sparing streams file other r keeps =
    same_reads file other limit old streams r (record {
      head = keeps.head;
      blocks = λ k d lt.
          keeps.blocks (get_or (source_blocks file old) k d) (source_behind file limit old streams r k d lt) (source_inside file limit old streams r k d lt)
          (λ j e inside same. spare_apart file limit old streams (get_or writes j e).block r (sparing j e inside).spare k d lt (sym same));
      long = keeps.long;
    })

-- ---- the parts of the writes

parted : (P : Write → Type 0) (ps bs : List (List ℕ)) (m : List ℕ) (given front listed : List ℕ) (addr : ℕ) → given ≡ front ++ (listed ++ addr ∷ []) → length ps ≡ length front → length bs ≡ length listed → AllByRecursion P (writes_to (ps ++ (bs ++ m ∷ [])) given)
    → AllByRecursion P (writes_to ps given) × AllByRecursion P (writes_to bs listed) × P (record { block = addr; bytes = m })
parted P ps bs m given front listed addr split n_ps n_bs all =
    let behind : drop (length ps) given ≡ listed ++ addr ∷ [] = ap (drop (length ps)) split ∙ drop_at front (listed ++ addr ∷ []) (length ps) (sym n_ps) in
    let last : drop (length bs) (listed ++ addr ∷ []) ≡ addr ∷ [] = drop_at listed (addr ∷ []) (length bs) (sym n_bs) in
    let one = subst (AllByRecursion P) (writes-append ps (bs ++ m ∷ []) given ∙ ap (λ more. writes_to ps given ++ writes_to (bs ++ m ∷ []) more) behind) all in
    let text = each_behind P (writes_to ps given) (writes_to (bs ++ m ∷ []) (listed ++ addr ∷ [])) one in
    let two = subst (AllByRecursion P) (writes-append bs (m ∷ []) (listed ++ addr ∷ []) ∙ ap (λ more. writes_to bs (listed ++ addr ∷ []) ++ writes_to (m ∷ []) more) last) text in
    let listed_part = each_front P (writes_to bs (listed ++ addr ∷ [])) (writes_to (m ∷ []) (addr ∷ [])) two in (
      each_front P (writes_to ps given) (writes_to (bs ++ m ∷ []) (listed ++ addr ∷ [])) one,
      subst (AllByRecursion P) (writes_front bs listed (addr ∷ []) (omega (arith, n_bs))) listed_part,
      (each_behind P (writes_to bs (listed ++ addr ∷ [])) (writes_to (m ∷ []) (addr ∷ [])) two).0,
    )

-- ---- all streams

contents_of : (s t : Super) (file other : List ℕ) (edits : List StreamEdit) (streams : List (Option StreamBlocks)) (given : List ℕ) → t.block ≡ s.block → IsBlockSize s.block → ((j n : ℕ) → AllByRecursion (IsAligned s.block j (len_after edits j n)) edits)
    → ((i : ℕ) → 1 ≤ i → IsCovered s.block edits i (stream_at streams i)) → AreSized s.block streams → AllByRecursion (λ b. length (block_bytes s.block file b) ≡ s.block) (flat_map blocks_in streams)
    → AllByRecursion (Stands s.block other) (writes_to (pieces (all_parts (layouts s.block edits streams))) given) → AllByRecursion (λ b. block_bytes s.block other b ≡ block_bytes s.block file b) (kept_in (all_parts (layouts s.block edits streams)))
    → map (stream_in other t) (drop 1 (laid (layouts s.block edits streams) given)) ≡ edited_from edits 1 (map (stream_in file s) (drop 1 streams))
unfolding layouts
contents_of s t file other edits [] given same h aligned covered are whole stand keeps = refl
contents_of s t file other edits (x ∷ streams) given same h aligned covered are whole stand keeps =
    streams_after s t file other edits 1 streams given same h aligned (covered_from s.block edits x streams covered) are.1 (each_behind (λ b. length (block_bytes s.block file b) ≡ s.block) (blocks_in x) (flat_map blocks_in streams) whole) stand keeps

abbrev made : ℕ → List ℕ → Write
made b bytes = record { block = b; bytes = bytes }

-- ---- the new superblock

module _ (limit : ℕ) (old : Image) (edits : List StreamEdit) (whole : IsWhole old) (are : AreEdits old.head.block old.directory edits) (fits : limit < 2 ^ 32) (directory : FitsDirectory old edits) (few : new_blocks old edits ≤ limit)
    (streams : List (Option (List ℕ))) (file other : List ℕ) (r : Reads file limit old streams) (t : TakesNew old edits (planned old edits) file other) where
  abbrev size : ℕ
  size = old.head.block

  some_bytes : 0 < size
  some_bytes = let least = (sized old.head.block whole.head.block).least in omega (arith, least)

  stand_all : AllByRecursion (Stands size other) (block_writes old edits ++ map_part old edits)
  stand_all = recursion_from_All (Stands size other) (block_writes old edits ++ map_part old edits) t.stand

  stand_blocks : AllByRecursion (Stands size other) (block_writes old edits)
  stand_blocks = each_front (Stands size other) (block_writes old edits) (map_part old edits) stand_all

  stand_map : AllByRecursion (Stands size other) (map_part old edits)
  stand_map = each_behind (Stands size other) (block_writes old edits) (map_part old edits) stand_all

  -- the file has all its blocks
  has_blocks : HasBlocks other (new_head old edits)
  unfolding new_blocks
  has_blocks =
      has_blocks_with size (length other) old.head.blocks (given_blocks old edits) t.long
      (stands_inside size other (new_pieces old edits) (given_blocks old edits) some_bytes (length_pieces old edits) (pieces_whole old edits) stand_blocks)

  -- the streams, the text of the directory and the block map stand
  stand_parts : AllByRecursion (Stands size other) (writes_to (pieces (all_parts (new_layouts old edits))) (given_blocks old edits))
      × AllByRecursion (Stands size other) (writes_to (map (block_of size (directory_text (new_directory old edits))) (range_with_len 0 (blocks_of_size size (length (directory_text (new_directory old edits)))))) (new_listed old edits))
      × Stands size other (record { block = new_map_addr old edits; bytes = block_of size (flat_map word (new_listed old edits)) 0 })
  unfolding new_pieces written_count
  stand_parts =
      let ps = pieces (all_parts (new_layouts old edits)) in
      let text = directory_text (new_directory old edits) in
      let n = blocks_of_size size (length text) in
      parted (Stands size other) ps (map (block_of size text) (range_with_len 0 n)) (block_of size (flat_map word (new_listed old edits)) 0) (given_blocks old edits) (front old edits) (new_listed old edits) (new_map_addr old edits) (given_split old edits)
      (sym (length_front old edits)) (length-map-range_with_len (block_of size text) 0 n ∙ ap (blocks_of_size size) (length_directory old edits) ∙ sym (length_listed old edits)) stand_blocks

  -- the block map lists the blocks of the directory
  are_listed : directory_blocks other (new_head old edits) ≡ new_listed old edits
  are_listed =
      let listed = new_listed old edits in
      let d = new_dir_blocks old edits in
      let len = length_listed old edits in
      let none : 0 * size ≡ 0 = omega arith in
      let short : 4 * length listed ≤ size = omega (arith, len, listed_short size (new_dir_bytes old edits) whole.head.block directory) in
      let words : AllByRecursion (λ b. b < 2 ^ 32) listed =
      each_weaker (λ b. b < new_blocks old edits) (λ b. b < 2 ^ 32) listed (λ b lt. omega (arith, lt, few, fits)) (each_part old edits (λ b. b < new_blocks old edits) (all_inside old edits)).1 in
      ap (λ bytes. take d (words_in bytes)) stand_parts.2 ∙ ap (λ n. take n (words_in (block_of size (flat_map word listed) 0))) (sym len)
      ∙ map_words size (flat_map word listed) listed 0 short words (ap (λ n. drop n (flat_map word listed)) none)

  -- and these hold its text
  text_is : directory_in other (new_head old edits) ≡ directory_text (new_directory old edits)
  text_is =
      let text = directory_text (new_directory old edits) in
      let n = blocks_of_size size (length text) in
      let cut = map (block_of size text) (range_with_len 0 n) in
      let len = length_directory old edits in
      let same : length cut ≡ length (new_listed old edits) = length-map-range_with_len (block_of size text) 0 n ∙ ap (blocks_of_size size) len ∙ sym (length_listed old edits) in
      ap (λ blocks. take (new_dir_bytes old edits) (bytes_of_blocks size other blocks)) are_listed ∙ ap (take (new_dir_bytes old edits)) (stands_joined size other cut (new_listed old edits) same stand_parts.1 ∙ flat_map-map (λ x. x) (block_of size text) (range_with_len 0 n))
      ∙ ap (λ m. take m (flat_map (block_of size text) (range_with_len 0 n))) (sym len) ∙ text_again size text whole.head.block

  -- the map that becomes active
  map_is : bytes_of_blocks size other (active_map_blocks (new_head old edits)) ≡ map_text size (new_free old edits)
  map_is =
      let s = new_head old edits in
      let text = map_text size (new_free old edits) in
      let n = map_blocks size s.blocks in
      let f = λ (j : ℕ). made (map_block s.block s.map j) (block_of s.block text j) in
      let none : 0 * size ≡ 0 = omega arith in
      let at : drop (0 * size) text ≡ text ++ [] = ap (λ m. drop m text) none ∙ sym (append-nil text) in
      let len : length text ≡ n * size = length-map_text size (new_free old edits) ∙ ap (λ blocks. map_blocks size blocks * size) (free_blocks old edits) in
      run_of size other text (map_block size s.map) 0 n
      (λ k from to.
      let lt : k < n = omega (arith, to) in
      let there : k < length (map_part old edits) = omega (arith, lt, length-map-range_with_len f 0 n) in
      let is : get_or (map_part old edits) k (f 0) ≡ f k = get_or-map-range_with_len f 0 n k k (f 0) lt (omega arith) in
      subst (Stands size other) is (each_at (Stands size other) (map_part old edits) k (f 0) stand_map there))
      ∙ run_is size text text [] 0 n len at

  free_is : new_free old edits ≡ free_blocks_in other (new_head old edits)
  unfolding free_blocks_in new_free
  free_is =
      let test = λ (b : ℕ). not (list_any (λ x. eqb x b) (used_blocks (new_map_addr old edits ∷ new_listed old edits) (new_directory old edits))) in
      sym (ap (free_in size (new_blocks old edits)) map_is ∙ map_again size (new_blocks old edits) test some_bytes)

  -- the old blocks of the streams lie in the old file
  old_whole : AllByRecursion (λ b. length (block_bytes size file b) ≡ size) (flat_map blocks_in old.directory)
  old_whole =
      each_weaker (IsOldBlock old) (λ b. length (block_bytes size file b) ≡ size) (flat_map blocks_in old.directory)
      (λ b is.
      let inside = block_inside b old.head.blocks size (length file) is.inside r.inside in
      length-take-le size (drop (b * size) file) (omega (arith, inside, length-drop (b * size) file))) (old_blocks old whole).0

  contents_are : edited edits streams ≡ contents_in other (new_image old edits)
  unfolding new_directory new_layouts
  contents_are =
      ap (edited_from edits 1) r.contents
      ∙ sym (contents_of old.head (new_head old edits) file other edits old.directory (given_blocks old edits) refl whole.head.block (λ j n. are_aligned size old.directory edits j n are.each) are.covered whole.directory.sized old_whole stand_parts.0
      (recursion_from_All (λ b. block_bytes size other b ≡ block_bytes size file b) (kept_blocks old edits) t.kept))

  pub takes_new : Reads other limit (new_image old edits) (edited edits streams)
  takes_new =
      let s = new_head old edits in
      let d = new_directory old edits in
      record {
        head = is_super old edits limit whole fits directory few;
        text = t.head;
        limited = few;
        inside = has_blocks;
        spelled = Spells-directory_text size d (directory_in other s) (none_skipped old edits whole) text_is;
        sized = is_sized old edits whole are;
        usable = subst (λ listed. AreUsable s [] (used_blocks (s.map_addr ∷ listed) d)) (sym are_listed) (used_usable old edits whole are);
        free = free_is;
        none_free = subst (λ listed. All (λ b. is_free (new_free old edits) b ≡ false) (used_blocks (s.map_addr ∷ listed) d)) (sym are_listed) (none_free old edits whole are);
        contents = contents_are;
      }
