-- The sizes in the directory of a file are those of the contents that it reads as.
use Rattle.std.proofs.Common.{◌≡◌, ◌≤◌, ◌<◌, ◌+◌, ◌*◌, ◌^◌, ℕ, zero, suc, cond, List, [], ◌∷◌, ◌++◌, length, map, take, drop, Option, None, Some, IsSome, refl, sym, ap, subst, ◌∙◌, arith}
use Rattle.std.specs.List.{AllByRecursion, flat_map}
use Rattle.std.specs.Option.{option_map}
use Rattle.std.proofs.lemmas.Bool.{ne_eqb}
use Rattle.std.proofs.lemmas.List.{length-append, length-drop, length-map, length-take, length-take-le}
use Rattle.std.proofs.lemmas.List.Sums.{sum_by-cons}
use Rattle.std.proofs.lemmas.Nat.{mul-le}
use Rattle.std.proofs.Math.Nat.{div-mul-le_self}
use Rattle.msf_blocks.specs.declared.superblock.Super.{Super}
use Rattle.msf_blocks.specs.Blocks.{IsBlockSize, blocks_of_size}
use Rattle.msf_blocks.specs.Superblock.{IsSuper}
use Rattle.msf_blocks.proofs.Sizes.{sized}
use Rattle.stream_directory.specs.Directory.{AreSized, IsSized, Spells, StreamBlocks, absent_size, blocks_in, size_field, skipped_count}
use Rattle.stream_directory.proofs.Streams.{length-words}
use Rattle.msf_image.specs.declared.image.Image.{Image}
use Rattle.msf_image.specs.Reads.{block_bytes, bytes_of_blocks, directory_blocks}
use Rattle.msf_image.specs.Relation.{Reads, directory_in, stream_in, used_in}
use Rattle.msf_image.proofs.Joining.{block_inside}
use Rattle.msf_image.proofs.Laying.{whole_blocks}
use Rattle.cow_streams.proofs.Joined.{length-joined}
use Rattle.cow_streams.proofs.Lists.{each_behind, each_front, each_weaker}
use Rattle.cow_streams.proofs.Usable.{Usable, usable_each}
use Rattle.type_store.specs.Holds.{Contents}
use Rattle.table_model.specs.Tables.{Tables}
use Rattle.type_store.specs.Shape.{HaveRoom, Reaches, Sizes, block_count, bytes_for, record_stream_size, size_at, sizes_in, sizes_of, stream_blocks}
use Rattle.type_store.specs.Written.{CanKeep, KeptNumbers}
use Rattle.type_store.proofs.Counting.{blocks_sized}

-- ---- a content has the size of its stream

content_size : (file : List ℕ) (s : Super) (stream : StreamBlocks) → IsBlockSize s.block → length stream.blocks ≡ blocks_of_size s.block stream.size → AllByRecursion (λ b. length (block_bytes s.block file b) ≡ s.block) stream.blocks
    → length (take stream.size (bytes_of_blocks s.block file stream.blocks)) ≡ stream.size
content_size file s stream h count whole =
    let n = length-joined (block_bytes s.block file) s.block stream.blocks whole in
    length-take-le stream.size (bytes_of_blocks s.block file stream.blocks) (omega (arith, n, ap (λ m. m * s.block) count, whole_blocks s.block stream.size h))

abbrev content_length : Option (List ℕ) → Option ℕ
content_length content = option_map (λ (stream : List ℕ). length stream) content

one_content : (file : List ℕ) (s : Super) (x : Option StreamBlocks) → IsBlockSize s.block → IsSized s.block x → AllByRecursion (λ b. length (block_bytes s.block file b) ≡ s.block) (blocks_in x)
    → content_length (stream_in file s x) ≡ option_map (λ (stream : StreamBlocks). stream.size) x
one_content file s None h is whole = refl
one_content file s (Some stream) h is whole = ap Some (content_size file s stream h is.1 whole)

contents_sized : (file : List ℕ) (s : Super) (streams : List (Option StreamBlocks)) → IsBlockSize s.block → AllByRecursion (IsSized s.block) streams → AllByRecursion (λ b. length (block_bytes s.block file b) ≡ s.block) (flat_map blocks_in streams)
    → sizes_of (map (stream_in file s) streams) ≡ sizes_in streams
contents_sized file s [] h are whole = refl
contents_sized file s (x ∷ streams) h are whole =
    let Whole = λ (b : ℕ). length (block_bytes s.block file b) ≡ s.block in
    λ k. one_content file s x h are.0 (each_front Whole (blocks_in x) (flat_map blocks_in streams) whole) k ∷ contents_sized file s streams h are.1 (each_behind Whole (blocks_in x) (flat_map blocks_in streams) whole) k

-- ---- of a file

block_whole : (size blocks b : ℕ) (file : List ℕ) → b < blocks → blocks * size ≤ length file → length (block_bytes size file b) ≡ size
block_whole size blocks b file lt long = length-take-le size (drop (b * size) file) (omega (arith, length-drop (b * size) file, block_inside b blocks size (length file) lt long))

rest_sized : (size : ℕ) (streams : List (Option StreamBlocks)) → AreSized size streams → AllByRecursion (IsSized size) (drop 1 streams)
rest_sized size [] are = tt
rest_sized size (x ∷ streams) are = are.1

rest_blocks : (P : ℕ → Type 0) (streams : List (Option StreamBlocks)) → AllByRecursion P (flat_map blocks_in streams) → AllByRecursion P (flat_map blocks_in (drop 1 streams))
rest_blocks P [] all = tt
rest_blocks P (x ∷ streams) all = each_behind P (blocks_in x) (flat_map blocks_in streams) all

pub sizes_read : (file : List ℕ) (limit : ℕ) (image : Image) (streams : List (Option (List ℕ))) → Reads file limit image streams → sizes_of streams ≡ sizes_in (drop 1 image.directory)
sizes_read file limit image streams is =
    let s = image.head in
    let listed = s.map_addr ∷ directory_blocks file s in
    let Whole = λ (b : ℕ). length (block_bytes s.block file b) ≡ s.block in
    let usable = (usable_each s [] (used_in file image) is.usable).0 in
    let of_streams = each_behind (Usable s []) listed (flat_map blocks_in image.directory) usable in
    let whole = each_weaker (Usable s []) Whole (flat_map blocks_in image.directory) (λ b u. block_whole s.block s.blocks b file u.1 is.inside) of_streams in
    ap sizes_of is.contents ∙ contents_sized file s (drop 1 image.directory) is.head.block (rest_sized s.block image.directory is.sized) (rest_blocks Whole image.directory whole)

rest_at : (sizes : Sizes) (i : ℕ) → size_at (drop 1 sizes) i ≡ size_at sizes (suc i)
rest_at [] i = refl
rest_at (x ∷ sizes) i = refl

rest_of_contents : (contents : Contents) → sizes_of (drop 1 contents) ≡ drop 1 (sizes_of contents)
rest_of_contents [] = refl
rest_of_contents (x ∷ contents) = refl

rest_of_streams : (streams : List (Option StreamBlocks)) → sizes_in (drop 1 streams) ≡ drop 1 (sizes_in streams)
rest_of_streams [] = refl
rest_of_streams (x ∷ streams) = refl

pub size_read : (file : List ℕ) (limit : ℕ) (image : Image) (contents : Contents) (i : ℕ) → Reads file limit image (drop 1 contents) → 1 ≤ i → size_at (sizes_in image.directory) i ≡ size_at (sizes_of contents) i
size_read file limit image contents zero is le = absurd (omega (arith, le))
size_read file limit image contents (suc i) is le =
    let same : drop 1 (sizes_in image.directory) ≡ drop 1 (sizes_of contents) = sym (rest_of_streams image.directory) ∙ sym (sizes_read file limit image (drop 1 contents) is) ∙ rest_of_contents contents in
    sym (rest_at (sizes_in image.directory) i) ∙ ap (λ sizes. size_at sizes i) same ∙ rest_at (sizes_of contents) i

-- ---- the bytes of its directory

skipped_blocks : (size : ℕ) (streams : List (Option StreamBlocks)) → AreSized size streams → skipped_count size (map size_field streams) + length (flat_map blocks_in streams) ≡ stream_blocks size (sizes_in streams)
skipped_blocks size [] are = omega arith
skipped_blocks size (None ∷ streams) are = omega (arith, blocks_sized size streams are.1, sum_by-cons (block_count size) None (sizes_in streams))
skipped_blocks size (Some s ∷ streams) are =
    let none = ap (λ (xs : List ℕ). length xs) are.0.1 in
    let there : skipped_count size (map size_field (Some s ∷ streams)) ≡ blocks_of_size size s.size = ap (λ t. cond t 0 (blocks_of_size size s.size)) (ne_eqb s.size absent_size (λ e. let short = are.0.0 in omega (arith, e, short))) in
    omega (arith, length-append s.blocks (flat_map blocks_in streams), blocks_sized size streams are.1, sum_by-cons (block_count size) (Some s.size) (sizes_in streams), none, there)

pub directory_spelled : (image : Image) (bytes : List ℕ) → IsSuper image.head → AreSized image.head.block image.directory → Spells image.head.block bytes image.directory → length bytes ≤ image.head.dir_bytes
    → bytes_for image.head.block (sizes_in image.directory) ≤ 2 ^ 28
directory_spelled image bytes head sized_streams is short =
    let size = image.head.block in
    let d = image.directory in
    let sizes = map size_field d in
    let rest = is.skipped ++ flat_map blocks_in d in
    let text = ap (λ (xs : List ℕ). length xs) is.text ∙ length-words (length d ∷ (sizes ++ rest)) in
    let numbers = length-append sizes rest in
    let skipped = length-append is.skipped (flat_map blocks_in d) in
    let most = head.most_dir_bytes in
    let large = (sized size head.block).most in
    let square = mul-le size size 32768 32768 large large in
    omega (arith, text, numbers, length-map d size_field, skipped, is.count, skipped_blocks size d sized_streams, length-map d (option_map (λ (s : StreamBlocks). s.size)), short, most, square, div-mul-le_self (size * size) 4)

pub directory_read : (file : List ℕ) (limit : ℕ) (image : Image) (streams : List (Option (List ℕ))) → Reads file limit image streams → bytes_for image.head.block (sizes_in image.directory) ≤ 2 ^ 28
directory_read file limit image streams is =
    let bytes = bytes_of_blocks image.head.block file (directory_blocks file image.head) in
    let cut = length-take image.head.dir_bytes bytes in
    directory_spelled image (directory_in file image.head) is.head is.sized is.spelled (omega (arith, cut))

-- ---- the streams that a commit writes

pub room_read : (file : List ℕ) (limit : ℕ) (image : Image) (kept : KeptNumbers) (info : List ℕ) (tables : Tables) (contents : Contents) → CanKeep kept info → Reads file limit image (drop 1 contents)
    → HaveRoom kept info tables (sizes_of contents) → HaveRoom kept info tables (sizes_in image.directory)
room_read file limit image kept info tables contents can is have =
    let same = λ (i : ℕ) (le : 1 ≤ i). size_read file limit image contents i is le in
    let There = λ (o : Option ℕ). IsSome o in
    record {
      info_stream = same 1 (omega arith) ∙ have.info_stream;
      types = subst (λ o. Reaches o (record_stream_size tables.types.records)) (sym (same 2 (omega arith))) have.types;
      items = subst (λ o. Reaches o (record_stream_size tables.items.records)) (sym (same 4 (omega arith))) have.items;
      type_hashes = subst There (sym (same kept.types.hash_stream (omega (arith, can.type_hashes)))) have.type_hashes;
      item_hashes = subst There (sym (same kept.items.hash_stream (omega (arith, can.item_hashes)))) have.item_hashes;
      names = subst There (sym (same kept.names_stream (omega (arith, can.names_stream)))) have.names;
    }
