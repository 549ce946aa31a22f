-- What a plan of a commit's edits needs, in the numbers of the file's shape.
use Rattle.std.proofs.Common.{◌≡◌, ◌≤◌, ◌<◌, ◌+◌, ◌-◌, ◌/◌, ℕ, Bool, true, false, cond, List, [], ◌∷◌, ◌++◌, length, map, Option, None, Some, sym, ap, ◌∙◌, arith, eqb}
use Rattle.std.specs.List.{AllByRecursion, flat_map, range_with_len}
use Rattle.std.proofs.lemmas.List.{length-append}
use Rattle.std.proofs.lemmas.List.Elements.{recursion_from_All}
use Rattle.std.proofs.lemmas.List.Sums.{sum_by-cons}
use Rattle.std.proofs.lemmas.Nat.{le-div}
use Rattle.std.proofs.Math.Nat.{div-mul-le_self}
use Rattle.msf_blocks.specs.Blocks.{IsReserved, blocks_of_size, is_reserved}
use Rattle.msf_blocks.specs.Edit.{StreamEdit}
use Rattle.msf_blocks.proofs.Sizes.{sized}
use Rattle.stream_directory.specs.Directory.{AreSized, StreamBlocks, blocks_in}
use Rattle.msf_image.specs.declared.image.Image.{Image}
use Rattle.msf_image.specs.Reads as reads
use Rattle.cow_streams.specs.Layout.{Part, kept, fresh, all_parts, layouts, pieces}
use Rattle.cow_streams.specs.Planned.{given_blocks, new_blocks, new_dir_blocks, new_dir_bytes, new_layouts, written_count}
use Rattle.cow_streams.proofs.Wholeness.{length_given}
use Rattle.table_model.specs.Extends.{StartsWith}
use Rattle.table_model.specs.Tables.{Tables}
use Rattle.tpi_stream.proofs.Growing.{length-joined-append, offsets_grow}
use Rattle.names_table.proofs.Growing.{bytes_of-append}
use Rattle.names_table.proofs.Strings.{length-strings}
use Rattle.type_store.specs.Committed.{GoesOn}
use Rattle.type_store.specs.Shape.{MayNeed, Shape, block_count, bytes_for, directory_bytes, hash_stream_size, names_stream_size, record_stream_size, reserved_below, size_at, sizes_in, stream_blocks, used_blocks, written_size, written_sizes}
use Rattle.type_store.specs.Planning.{IsBaseImage, IsOpenedImage, IsWrittenImage}
use Rattle.type_store.proofs.Blocks.{blocks_of_any, blocks_of_complete}
use Rattle.type_store.proofs.Counting.{all_blocks, blocks_sized, planned_bytes}
use Rattle.type_store.proofs.Changes.{sizes_after}
use Rattle.type_store.proofs.Sizes.{length-written_sizes}

-- ---- texts grow

quotients_grow : (m n k : ℕ) → 0 < k → m ≤ n → m / k ≤ n / k
quotients_grow m n k some le = le-div (m / k) n k some (omega (arith, div-mul-le_self m k, le))

records_grow : (old new : List (List ℕ)) → StartsWith old new → record_stream_size old ≤ record_stream_size new
records_grow old new starts = omega (arith, ap (λ r. record_stream_size r) starts.1, length-joined-append old starts.0)

hashes_grow : (old new : List (List ℕ)) → StartsWith old new → hash_stream_size old ≤ hash_stream_size new
hashes_grow old new starts = omega (arith, ap (λ r. hash_stream_size r) starts.1, length-append old starts.0, offsets_grow old starts.0)

names_grow : (old new : List (List ℕ)) → StartsWith old new → names_stream_size old ≤ names_stream_size new
names_grow old new starts =
    let more = length-append old starts.0 in
    let quarter = quotients_grow (length old) (length (old ++ starts.0)) 4 (omega arith) (omega (arith, more)) in
    omega (arith, ap (λ r. names_stream_size r) starts.1, bytes_of-append old starts.0, length-strings starts.0, more, quarter)

blocks_grow : (size m n : ℕ) → 0 < size → m ≤ n → blocks_of_size size m ≤ blocks_of_size size n
blocks_grow size m n some le = quotients_grow (m + (size - 1)) (n + (size - 1)) size some (omega (arith, le))

-- a stream has no fewer blocks
abbrev IsFewer : ℕ → Option ℕ → Option ℕ → Type 0
IsFewer size a b = block_count size a ≤ block_count size b

fewer_by : (size : ℕ) (t : Bool) (a b c d : Option ℕ) → IsFewer size a c → IsFewer size b d → IsFewer size (cond t a b) (cond t c d)
fewer_by size true a b c d first second = first
fewer_by size false a b c d first second = second

fewer_written : (shape : Shape) (old new : Tables) (i : ℕ) (o : Option ℕ) → 0 < shape.block → GoesOn old new → IsFewer shape.block (written_size shape old i o) (written_size shape new i o)
fewer_written shape old new i o some on =
    let size = shape.block in
    fewer_by size (eqb i 0) _ _ _ _ (omega arith)
    (fewer_by size (eqb i 2) _ _ _ _ (blocks_grow size _ _ some (records_grow old.types.records new.types.records on.extends.types))
    (fewer_by size (eqb i 4) _ _ _ _ (blocks_grow size _ _ some (records_grow old.items.records new.items.records on.extends.items))
    (fewer_by size (eqb i shape.type_hashes) _ _ _ _ (blocks_grow size _ _ some (hashes_grow old.types.records new.types.records on.extends.types))
    (fewer_by size (eqb i shape.item_hashes) _ _ _ _ (blocks_grow size _ _ some (hashes_grow old.items.records new.items.records on.extends.items))
    (fewer_by size (eqb i shape.names_stream) _ _ _ _ (blocks_grow size _ _ some (names_grow old.names.names new.names.names on.extends.names)) (omega arith))))))

sums_grow : (size : ℕ) (f g : ℕ → Option ℕ) (xs : List ℕ) → ((i : ℕ) → IsFewer size (f i) (g i)) → stream_blocks size (map f xs) ≤ stream_blocks size (map g xs)
sums_grow size f g [] each = omega arith
sums_grow size f g (x ∷ xs) each = omega (arith, sum_by-cons (block_count size) (f x) (map f xs), sum_by-cons (block_count size) (g x) (map g xs), each x, sums_grow size f g xs each)

stream_blocks_grow : (shape : Shape) (old new : Tables) → 0 < shape.block → GoesOn old new → stream_blocks shape.block (written_sizes shape old) ≤ stream_blocks shape.block (written_sizes shape new)
unfolding written_sizes
stream_blocks_grow shape old new some on =
    sums_grow shape.block (λ i. written_size shape old i (size_at shape.sizes i)) (λ i. written_size shape new i (size_at shape.sizes i)) (range_with_len 0 (length shape.sizes)) (λ i. fewer_written shape old new i (size_at shape.sizes i) some on)

same_length : (shape : Shape) (old new : Tables) → length (written_sizes shape old) ≡ length (written_sizes shape new)
same_length shape old new = length-written_sizes shape old ∙ sym (length-written_sizes shape new)

bytes_grow : (shape : Shape) (old new : Tables) → 0 < shape.block → GoesOn old new → directory_bytes shape old ≤ directory_bytes shape new
bytes_grow shape old new some on = omega (arith, same_length shape old new, stream_blocks_grow shape old new some on)

used_grow : (shape : Shape) (old new : Tables) → 0 < shape.block → GoesOn old new → used_blocks shape old ≤ used_blocks shape new
used_grow shape old new some on =
    omega (arith, stream_blocks_grow shape old new some on, blocks_grow shape.block (directory_bytes shape old) (directory_bytes shape new) some (bytes_grow shape old new some on))

-- ---- the blocks that are given

few_pieces : (parts : List Part) → length (pieces parts) ≤ length parts
few_pieces [] = omega arith
few_pieces (kept b ∷ parts) = omega (arith, few_pieces parts)
few_pieces (fresh bytes ∷ parts) = omega (arith, few_pieces parts)

written_few : (old : Image) (edits : List StreamEdit) → 0 < old.head.block → written_count old edits ≤ stream_blocks old.head.block (sizes_after edits (sizes_in old.directory))
unfolding written_count new_layouts
written_few old edits some = omega (arith, few_pieces (all_parts (layouts old.head.block edits old.directory)), all_blocks old.head.block edits old.directory some)

-- no more than a file uses that is written for the tables
given_few : (shape : Shape) (tables : Tables) (old : Image) (edits : List StreamEdit) → 0 < shape.block → old.head.block ≡ shape.block → sizes_after edits (sizes_in old.directory) ≡ written_sizes shape tables
    → length (given_blocks old edits) ≤ used_blocks shape tables
given_few shape tables old edits some block sizes =
    let some_old : 0 < old.head.block = omega (arith, some, block) in
    let bytes : new_dir_bytes old edits ≡ directory_bytes shape tables = planned_bytes old edits some_old ∙ λ k. bytes_for (block k) (sizes k) in
    let listed : new_dir_blocks old edits ≡ blocks_of_size shape.block (directory_bytes shape tables) = λ k. blocks_of_size (block k) (bytes k) in
    let streams : stream_blocks old.head.block (sizes_after edits (sizes_in old.directory)) ≡ stream_blocks shape.block (written_sizes shape tables) = λ k. stream_blocks (block k) (sizes k) in
    omega (arith, length_given old edits, written_few old edits some_old, listed, streams)

-- ---- the blocks that the old image uses

few_of_all : (size : ℕ) (streams : List (Option StreamBlocks)) → AreSized size streams → length (flat_map blocks_in streams) ≤ stream_blocks size (sizes_in streams)
few_of_all size [] sized = omega arith
few_of_all size (None ∷ streams) sized = omega (arith, blocks_sized size streams sized.1, sum_by-cons (block_count size) None (sizes_in streams))
few_of_all size (Some s ∷ streams) sized =
    let none = ap (λ (xs : List ℕ). length xs) sized.0.1 in
    omega (arith, length-append s.blocks (flat_map blocks_in streams), blocks_sized size streams sized.1, sum_by-cons (block_count size) (Some s.size) (sizes_in streams), none)

used_few : (shape : Shape) (tables : Tables) (image : Image) → image.head.block ≡ shape.block → (is : IsWrittenImage shape tables image)
    → length (reads.used_blocks (image.head.map_addr ∷ is.whole.blocks) image.directory) ≤ used_blocks shape tables
used_few shape tables image block is =
    let listed = image.head.map_addr ∷ is.whole.blocks in
    let few = few_of_all image.head.block image.directory is.whole.directory.sized in
    let streams : stream_blocks image.head.block (sizes_in image.directory) ≡ stream_blocks shape.block (written_sizes shape tables) = λ k. stream_blocks (block k) (is.sizes k) in
    let count : length is.whole.blocks ≡ blocks_of_size shape.block (directory_bytes shape tables) = is.whole.count ∙ λ k. blocks_of_size (block k) (is.dir_bytes k) in
    omega (arith, length-append listed (flat_map blocks_in image.directory), few, streams, count)

-- ---- the number of blocks

unreserved : (size b : ℕ) → is_reserved size b ≡ false → ¬ IsReserved size b
unreserved size b is yes_it_is = let both : true ≡ false = sym yes_it_is ∙ is in cc

-- ---- where edits give the sizes that are written for the tables
module _ (shape : Shape) (old tables : Tables) (image : Image) (edits : List StreamEdit) (block : image.head.block ≡ shape.block) (whole : reads.IsWhole image) (sizes : sizes_after edits (sizes_in image.directory) ≡ written_sizes shape tables) where
  some_old : 0 < image.head.block
  some_old = omega (arith, (sized image.head.block whole.head.block).least)

  some_shape : 0 < shape.block
  some_shape = omega (arith, some_old, block)

  pub directory_needed : new_dir_bytes image edits ≡ directory_bytes shape tables
  directory_needed = planned_bytes image edits some_old ∙ λ k. bytes_for (block k) (sizes k)

  given : length (given_blocks image edits) ≤ used_blocks shape tables
  given = given_few shape tables image edits some_shape block sizes

  inside : AllByRecursion (λ b. b < image.head.blocks) image.free.free
  inside = recursion_from_All (λ b. b < image.head.blocks) image.free.free whole.inside

  reserved_same : reserved_below image.head.block (new_blocks image edits) ≡ reserved_below shape.block (new_blocks image edits)
  reserved_same = ap (λ size. reserved_below size (new_blocks image edits)) block

  any_needed : new_blocks image edits ≤ reserved_below image.head.block (new_blocks image edits) + (image.head.blocks + length (given_blocks image edits))
  unfolding new_blocks given_blocks
  any_needed =
      let n = written_count image edits + new_dir_blocks image edits + 1 in
      blocks_of_any image.head.block image.head.blocks n image.free.free whole.head.block (omega (arith, whole.head.least_blocks)) inside

  opened_needed : IsOpenedImage shape image → MayNeed shape tables (new_blocks image edits)
  opened_needed is = omega (arith, any_needed, given, is.blocks, reserved_same)

  complete_needed : (is : IsWrittenImage shape old image) → image.head.blocks < new_blocks image edits
      → new_blocks image edits ≤ reserved_below image.head.block (new_blocks image edits) + (length (reads.used_blocks (image.head.map_addr ∷ is.whole.blocks) image.directory) + length (given_blocks image edits))
  unfolding new_blocks given_blocks
  complete_needed is more =
      let n = written_count image edits + new_dir_blocks image edits + 1 in
      let used = reads.used_blocks (image.head.map_addr ∷ is.whole.blocks) image.directory in
      blocks_of_complete image.head.block image.head.blocks n image.free.free whole.head.block (omega (arith, whole.head.least_blocks)) inside used more
      (λ b lt none. is.complete b lt (unreserved image.head.block b none))

  written_needed : GoesOn old tables → IsWrittenImage shape old image → image.head.blocks < new_blocks image edits → MayNeed shape tables (new_blocks image edits)
  written_needed on is more = omega (arith, complete_needed is more, given, used_few shape old image block is, used_grow shape old tables some_shape on, reserved_same)

pub blocks_needed : (fresh : Bool) (shape : Shape) (first old tables : Tables) (image : Image) (edits : List StreamEdit) → image.head.block ≡ shape.block → reads.IsWhole image → sizes_after edits (sizes_in image.directory) ≡ written_sizes shape tables
    → GoesOn old tables → IsBaseImage fresh shape first old image → image.head.blocks < new_blocks image edits → MayNeed shape tables (new_blocks image edits)
blocks_needed true shape first old tables image edits block whole sizes on base more = opened_needed shape old tables image edits block whole sizes base.0
blocks_needed false shape first old tables image edits block whole sizes on base more = written_needed shape old tables image edits block whole sizes on base more
