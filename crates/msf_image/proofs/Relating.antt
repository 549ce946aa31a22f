-- The judgement of a file answers an image exactly where the file reads as it.
use Rattle.std.proofs.Common.{◌≡◌, ◌≤◌, ◌<◌, ◌-◌, ◌*◌, ◌^◌, ◌++◌, ℕ, zero, suc, false, List, [], ◌∷◌, length, map, take, drop, get_or, find, All, Option, Some, None, Result, Ok, Err, refl, sym, ap, subst, ◌∙◌, inl, inr, lit<, arith}
use Rattle.std.specs.Prelude.{IfOk, OnOk, unwrap_or}
use Rattle.std.specs.List.{flat_map}
use Rattle.std.proofs.lemmas.Bool.{cases_lt}
use Rattle.std.proofs.lemmas.List.{get_or-append_right, get_or_append_left, get_or_past, length-append, length-map, length-take, take-take}
use Rattle.msf_blocks.specs.declared.superblock.Super.{Super}
use Rattle.msf_blocks.specs.Blocks.{block_offset}
use Rattle.msf_blocks.specs.Judging.{told_by, unless}
use Rattle.msf_blocks.specs.Superblock.{IsSuper, superblock_text, superblock_told}
use Rattle.msf_blocks.proofs.Numbers.{AreBytes, AreBytes-drop, AreBytes-take}
use Rattle.msf_blocks.proofs.Sizes.{IsSuper-dir_bytes-lt}
use Rattle.msf_blocks.proofs.SuperblockTexts.{Found, found_ok}
use Rattle.msf_blocks.proofs.Judging.{bound_ok, told_by_ok, unless_ok}
use Rattle.free_page_maps.specs.FreeBlocks.{FreeBlocks, is_free}
use Rattle.stream_directory.specs.Directory.{AreUsable, IsDirectory, Spells, StreamBlocks, blocks_in, numbers_behind, size_field, stream_at}
use Rattle.stream_directory.specs.Reading.{first_bad, reading}
use Rattle.stream_directory.proofs.Streams.{IsRead, length-words, none_from_usable, read_is, reading_again, usable_from_none}
use Rattle.msf_image.specs.declared.image.Image.{Image}
use Rattle.msf_image.specs.declared.fault.OpenFault.{OpenFault}
use Rattle.msf_image.specs.Faults.{damage_of_directory, damage_of_superblock, free_damage}
use Rattle.msf_image.specs.Reads.{block_bytes, bytes_of_blocks, content_of, directory_blocks, free_blocks_in, listed_blocks, read_file, streams_in, superblock_in, used_blocks, with_free}
use Rattle.msf_image.specs.Relation.{Reads, contents_in, directory_in, stream_in}
use Rattle.msf_image.proofs.Directories.{done, streams_from_text}
use Rattle.msf_image.proofs.Listed.{listed_from, usable_behind, usable_both, usable_front}
use Rattle.msf_image.proofs.Opening.{at_free, ok_is}
use Rattle.msf_image.proofs.Searching.{none_found, none_passes}
use Rattle.msf_image.proofs.Superblocks.{superblock_from}

-- ---- what reads is judged so

judged_free : (used : List ℕ) (image : Image) → All (λ b. is_free image.free b ≡ false) used → with_free used image ≡ Ok image
unfolding with_free
judged_free used image none = ap (λ found. told_by free_damage (unless found image)) (none_found (is_free image.free) used none)

-- a directory of so few bytes has few streams
pub directory_read : (file : List ℕ) (limit : ℕ) (image : Image) (streams : List (Option (List ℕ))) → Reads file limit image streams → IsDirectory image.head (image.head.map_addr ∷ directory_blocks file image.head) image.directory
directory_read file limit image streams r =
    let s = image.head in
    let text = directory_in file s in
    let skipped = r.spelled.skipped in
    let sizes = map size_field image.directory in
    let behind = skipped ++ flat_map blocks_in image.directory in
    let len = length-words (numbers_behind skipped image.directory) in
    let same = ap length r.spelled.text in
    record {
      few = omega (arith, len, same, length-append sizes behind, length-map image.directory size_field, length-take s.dir_bytes (bytes_of_blocks s.block file (directory_blocks file s)), IsSuper-dir_bytes-lt s r.head);
      sized = r.sized;
      usable = usable_behind s [] (s.map_addr ∷ directory_blocks file s) (flat_map blocks_in image.directory) r.usable;
    }

pub judged_from : (file : List ℕ) (limit : ℕ) (image : Image) (streams : List (Option (List ℕ))) → Reads file limit image streams → read_file file limit ≡ Ok image
judged_from file limit image streams r =
    let s = image.head in
    let listed = s.map_addr ∷ directory_blocks file s in
    let front = usable_front s [] listed (flat_map blocks_in image.directory) r.usable in
    let directory = directory_read file limit image streams r in
    at_free file file file file limit s listed image.directory image.free refl refl refl (superblock_from file limit s r.head r.text r.limited r.inside)
    (listed_from file (directory_blocks file s) s refl (none_from_usable s [] listed front))
    (streams_from_text file (directory_blocks file s) (directory_in file s) s s.map_addr image.directory refl (reading_again s listed (directory_in file s) image.directory r.head.blocks_fit directory r.spelled))
    (ap done (sym r.free))
    ∙ judged_free (used_blocks listed image.directory) image r.none_free

-- ---- what is judged so reads

-- the stages of an image that was answered
pub record Stages (file : List ℕ) (limit : ℕ) (image : Image) : Type 0 where
  pub listed : List ℕ
  pub head : superblock_in file limit ≡ Ok image.head
  pub list : listed_blocks file image.head ≡ Ok listed
  pub streams : streams_in file image.head listed ≡ Ok image.directory
  pub free : free_blocks_in file image.head ≡ image.free
  pub none : find (is_free image.free) (used_blocks listed image.directory) ≡ None

with_free_ok : (used : List ℕ) (image answer : Image) → with_free used image ≡ Ok answer → (find (is_free image.free) used ≡ None) × (image ≡ answer)
unfolding with_free
with_free_ok used image answer e =
    unless_ok (find (is_free image.free) used) image answer (told_by_ok free_damage (unless (find (is_free image.free) used) image) answer e)

pub stages : (file : List ℕ) (limit : ℕ) (image : Image) → read_file file limit ≡ Ok image → Stages file limit image
unfolding read_file
stages file limit image e =
    let a = bound_ok (superblock_in file limit) _ image e in
    let b = bound_ok (listed_blocks file a.0) _ image a.2 in
    let c = bound_ok (streams_in file a.0 b.0) _ image b.2 in
    let made : Image = record { head = a.0; directory = c.0; free = free_blocks_in file a.0 } in
    let d = with_free_ok (used_blocks b.0 c.0) made image c.2 in
    subst (Stages file limit) d.1 (record { listed = b.0; head = a.1; list = b.1; streams = c.1; free = refl; none = d.0 })

-- what the list of blocks is
pub listed_is : (file listed : List ℕ) (s : Super) → listed_blocks file s ≡ Ok listed → (first_bad s [] listed ≡ None) × (listed ≡ s.map_addr ∷ directory_blocks file s)
unfolding listed_blocks
listed_is file listed s e =
    let blocks = s.map_addr ∷ directory_blocks file s in
    let is = unless_ok (first_bad s [] blocks) blocks listed (told_by_ok damage_of_directory (unless (first_bad s [] blocks) blocks) listed e) in
    (subst (λ l. first_bad s [] l ≡ None) is.1 is.0, sym is.1)

-- the facts of each stage, joined
pub joined_facts : (file listed : List ℕ) (limit : ℕ) (image : Image) → IsSuper image.head → take 56 file ≡ superblock_text image.head → image.head.blocks ≤ limit → image.head.blocks * image.head.block ≤ length file
    → listed_blocks file image.head ≡ Ok listed → IsDirectory image.head listed image.directory → Spells image.head.block (take image.head.dir_bytes (bytes_of_blocks image.head.block file (drop 1 listed))) image.directory
    → free_blocks_in file image.head ≡ image.free → All (λ b. is_free image.free b ≡ false) (used_blocks listed image.directory) → Reads file limit image (contents_in file image)
joined_facts file listed limit image is text limited inside list directory spelled free none =
    let s = image.head in
    let l = listed_is file listed s list in
    let used = usable_both s [] listed (flat_map blocks_in image.directory) (usable_from_none s [] listed l.0) directory.usable in
    record {
      head = is;
      text = text;
      limited = limited;
      inside = inside;
      spelled = subst (λ l. Spells s.block (take s.dir_bytes (bytes_of_blocks s.block file (drop 1 l))) image.directory) l.1 spelled;
      sized = directory.sized;
      usable = subst (λ l. AreUsable s [] (used_blocks l image.directory)) l.1 used;
      free = sym free;
      none_free = subst (λ l. All (λ b. is_free image.free b ≡ false) (used_blocks l image.directory)) l.1 none;
      contents = refl;
    }

-- the same of a file that is read call by call: what is read of it, and what is answered
pub opened : (r : Result Image OpenFault) (file now then last : List ℕ) (limit : ℕ) (s : Super) (l : List ℕ) (d : List (Option StreamBlocks)) (m : FreeBlocks) → now ≡ file → then ≡ now → last ≡ then → IsSuper s → take 56 file ≡ superblock_text s
    → s.blocks ≤ limit → s.blocks * s.block ≤ length file → listed_blocks now s ≡ Ok l → IsDirectory s l d → Spells s.block (take s.dir_bytes (bytes_of_blocks s.block then (drop 1 l))) d → done (free_blocks_in last s) ≡ done m
    → IfOk r (λ judged. judged ≡ record { head = s; directory = d; free = m }) → OnOk r (All (λ b. is_free m b ≡ false) (used_blocks l d)) → IfOk r (λ image. Reads file limit image (contents_in file image))
opened (Err fault) file now then last limit s l d m same again more is text limited inside list directory spelled free judged none = tt
opened (Ok image) file now then last limit s l d m same again more is text limited inside list directory spelled free judged none =
    let made : Image = record { head = s; directory = d; free = m } in
    subst (λ image. Reads file limit image (contents_in file image)) (sym judged)
    (joined_facts file l limit made is text limited inside (ap (λ f. listed_blocks f s) (sym same) ∙ list) directory
    (subst (λ f. Spells s.block (take s.dir_bytes (bytes_of_blocks s.block f (drop 1 l))) d) (again ∙ same) spelled) (ap (λ f. free_blocks_in f s) (sym (more ∙ again ∙ same)) ∙ ok_is free) none)

-- ---- the content of one stream

bytes_of : (file : List ℕ) (s : Super) (stream : Option StreamBlocks) → unwrap_or (stream_in file s stream) [] ≡ content_of file s stream
bytes_of file s None = refl
bytes_of file s (Some stream) = refl

nth_content : (file : List ℕ) (s : Super) (streams : List (Option StreamBlocks)) (i : ℕ) → get_or (map (stream_in file s) streams) i None ≡ stream_in file s (get_or streams i None)
nth_content file s [] i = refl
nth_content file s (x ∷ streams) zero = refl
nth_content file s (x ∷ streams) (suc i) = nth_content file s streams i

nth_behind : (streams : List (Option StreamBlocks)) (i : ℕ) → 1 ≤ i → get_or (drop 1 streams) (i - 1) None ≡ get_or streams i None
nth_behind [] i some = refl
nth_behind (x ∷ streams) zero some = absurd (omega (arith, some))
nth_behind (x ∷ streams) (suc i) some = let same : suc i - 1 ≡ i = omega arith in ap (λ j. get_or streams j None) same

pub content_read : (file : List ℕ) (limit : ℕ) (image : Image) (streams : List (Option (List ℕ))) (i : ℕ) → 1 ≤ i → Reads file limit image streams
    → content_of file image.head (stream_at image.directory i) ≡ unwrap_or (get_or streams (i - 1) None) []
content_read file limit image streams i some r =
    sym (ap (λ all. unwrap_or (get_or all (i - 1) None) []) r.contents ∙ ap (λ x. unwrap_or x []) (nth_content file image.head (drop 1 image.directory) (i - 1))
    ∙ bytes_of file image.head (get_or (drop 1 image.directory) (i - 1) None) ∙ ap (content_of file image.head) (nth_behind image.directory i some))

-- ---- a file of bytes

AreBytes-append : (xs ys : List ℕ) → AreBytes xs → AreBytes ys → AreBytes (xs ++ ys)
AreBytes-append xs ys front behind i =
    elim (cases_lt i (length xs)) [
      | inl lt ↦ subst (λ n. n < 256) (sym (get_or_append_left xs ys 0 i lt)) (front i)
      | inr le ↦ subst (λ n. n < 256) (sym (get_or-append_right xs ys (length xs) i 0 refl le)) (behind (i - length xs))
    ]

AreBytes-blocks : (size : ℕ) (file blocks : List ℕ) → AreBytes file → AreBytes (bytes_of_blocks size file blocks)
AreBytes-blocks size file [] bytes = λ i. omega arith
AreBytes-blocks size file (b ∷ blocks) bytes =
    AreBytes-append (block_bytes size file b) (bytes_of_blocks size file blocks) (AreBytes-take size (drop (block_offset size b) file) (AreBytes-drop (block_offset size b) file bytes)) (AreBytes-blocks size file blocks bytes)

AreBytes-all : (file : List ℕ) → All (λ byte. byte < 2 ^ 8) file → AreBytes file
AreBytes-all file all i =
    elim (cases_lt i (length file)) [
      | inl lt ↦ all i 0 lt
      | inr le ↦ subst (λ n. n < 256) (sym (get_or_past file i 0 le)) (lit< tt)
    ]

-- the superblock that was answered
superblock_is : (file : List ℕ) (limit : ℕ) (s : Super) → AreBytes file → superblock_in file limit ≡ Ok s → Found (take 56 file) (length file) limit s
unfolding superblock_in
superblock_is file limit s bytes e =
    found_ok (take 56 file) (length file) limit s (AreBytes-take 56 file bytes) (told_by_ok damage_of_superblock (superblock_told (take 56 file) (length file) limit) s e)

-- the directory that was answered
streams_are : (file listed : List ℕ) (s : Super) (streams : List (Option StreamBlocks)) → AreBytes file → streams_in file s listed ≡ Ok streams
    → IsRead s listed (take s.dir_bytes (bytes_of_blocks s.block file (drop 1 listed))) streams
unfolding streams_in
streams_are file listed s streams bytes e =
    let text = take s.dir_bytes (bytes_of_blocks s.block file (drop 1 listed)) in
    read_is s listed text streams (AreBytes-take s.dir_bytes (bytes_of_blocks s.block file (drop 1 listed)) (AreBytes-blocks s.block file (drop 1 listed) bytes)) (told_by_ok damage_of_directory (reading s listed text) streams e)

pub reads_judged : (file : List ℕ) (limit : ℕ) (image : Image) → All (λ byte. byte < 2 ^ 8) file → read_file file limit ≡ Ok image → Reads file limit image (contents_in file image)
reads_judged file limit image all e =
    let bytes = AreBytes-all file all in
    let st = stages file limit image e in
    let head = superblock_is file limit image.head bytes st.head in
    let read = streams_are file st.listed image.head image.directory bytes st.streams in
    joined_facts file st.listed limit image head.is_super (sym (take-take 56 56 file (omega arith)) ∙ head.text) head.limited head.inside st.list read.directory read.spelled st.free
    (none_passes (is_free image.free) (used_blocks st.listed image.directory) st.none)
