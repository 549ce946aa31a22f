-- What a plan of a commit's edits needs: the directory and the blocks of a file that is written for its tables.
use Rattle.std.proofs.Common.{◌≡◌, ◌≤◌, ◌<◌, ◌+◌, ℕ, suc, Bool, true, false, List, [], ◌∷◌, length, Option, None, Some, refl, sym, ap, ◌∙◌, inl, inr, arith, codes}
use Rattle.std.specs.List.{AllByRecursion, flat_map}
use Rattle.std.specs.Option.{option_map}
use Rattle.std.proofs.lemmas.Bool.{cases_lt}
use Rattle.std.proofs.lemmas.List.{ext_get_or, get_or_past, length-append}
use Rattle.std.proofs.lemmas.List.FromFn.{length-map-range_with_len}
use Rattle.std.proofs.lemmas.List.Sums.{sum_by-cons}
use Rattle.std.proofs.Math.Nat.{div-eq_of_lt}
use Rattle.table_model.specs.Bounds.{Bounds}
use Rattle.msf_blocks.specs.Blocks.{blocks_of_size}
use Rattle.msf_blocks.specs.Edit.{StreamEdit}
use Rattle.stream_directory.specs.Directory.{IsSized, StreamBlocks, absent_size, blocks_in}
use Rattle.msf_image.specs.declared.image.Image.{Image}
use Rattle.msf_image.specs.Packed.{directory_len}
use Rattle.cow_streams.specs.Edits.{len_after}
use Rattle.cow_streams.specs.Layout.{all_parts, laid, layout_of, layouts, layouts_from, part_at, parts_in}
use Rattle.cow_streams.specs.Planned.{new_dir_bytes, new_directory, new_layouts}
use Rattle.table_model.specs.Tables.{Tables}
use Rattle.tpi_stream.proofs.Growing.{length-hash_text}
use Rattle.tpi_stream.proofs.WrittenStreams.{length-record_stream_text}
use Rattle.names_table.proofs.Growing.{length-names_text}
use Rattle.info_stream.proofs.Ages.{length-with_age}
use Rattle.type_store.specs.Commit.{commit_edits, extent_of}
use Rattle.type_store.specs.Committed.{GoesOn}
use Rattle.type_store.specs.Shape.{AreBaseSizes, HaveRoom, Shape, Sizes, block_count, bytes_for, shape_of, size_at, sizes_in, stream_blocks, written_size, written_sizes}
use Rattle.type_store.specs.Written.{AreWithin, CanKeep, KeptNumbers}
use Rattle.type_store.proofs.Changes.{Change, all_edits, changes_keep_size, changes_size, length-sizes_after, sizes_after, sizes_from}
use Rattle.type_store.proofs.Leaving.{all_changes, changes, distinct}
use Rattle.type_store.proofs.Making.{base_sizes, made}
use Rattle.type_store.proofs.Named.{named_long}
use Rattle.type_store.proofs.Sizes.{IsOther, by_number, length-written_sizes, positive, written_at, written_info, written_item_hashes, written_names, written_other, written_type_hashes}

-- ---- the sizes that a plan gives

laid_from : (size : ℕ) (edits : List StreamEdit) (i : ℕ) (streams : List (Option StreamBlocks)) (given : List ℕ) → sizes_in (laid (layouts_from size edits i streams) given) ≡ sizes_from edits i (sizes_in streams)
laid_from size edits i [] given = refl
laid_from size edits i (None ∷ streams) given = ap (λ xs. None ∷ xs) (laid_from size edits (i + 1) streams _)
laid_from size edits i (Some s ∷ streams) given = ap (λ xs. Some (len_after edits i s.size) ∷ xs) (laid_from size edits (i + 1) streams _)

laid_all : (size : ℕ) (edits : List StreamEdit) (streams : List (Option StreamBlocks)) (given : List ℕ) → sizes_in (laid (layouts size edits streams) given) ≡ sizes_after edits (sizes_in streams)
unfolding layouts
laid_all size edits [] given = refl
laid_all size edits (x ∷ streams) given = ap (λ xs. Some 0 ∷ xs) (laid_from size edits 1 streams _)

pub planned_sizes : (old : Image) (edits : List StreamEdit) → sizes_in (new_directory old edits) ≡ sizes_after edits (sizes_in old.directory)
unfolding new_directory new_layouts
planned_sizes old edits = laid_all old.head.block edits old.directory _

-- ---- the directory that it needs

parts_of_one : (size : ℕ) (edits : List StreamEdit) (i : ℕ) (x : Option StreamBlocks) → length (parts_in (layout_of size edits i x)) ≡ block_count size (option_map (len_after edits i) (option_map (λ (s : StreamBlocks). s.size) x))
parts_of_one size edits i None = refl
parts_of_one size edits i (Some s) = length-map-range_with_len (part_at size edits i s.blocks) 0 (blocks_of_size size (len_after edits i s.size))

parts_from : (size : ℕ) (edits : List StreamEdit) (i : ℕ) (streams : List (Option StreamBlocks)) → length (all_parts (layouts_from size edits i streams)) ≡ stream_blocks size (sizes_from edits i (sizes_in streams))
parts_from size edits i [] = refl
parts_from size edits i (x ∷ streams) =
    let here = parts_in (layout_of size edits i x) in
    let rest = all_parts (layouts_from size edits (i + 1) streams) in
    length-append here rest ∙ (λ k. parts_of_one size edits i x k + parts_from size edits (i + 1) streams k)
    ∙ sym (sum_by-cons (block_count size) (option_map (len_after edits i) (option_map (λ (s : StreamBlocks). s.size) x)) (sizes_from edits (i + 1) (sizes_in streams)))

length-layouts_from : (size : ℕ) (edits : List StreamEdit) (i : ℕ) (streams : List (Option StreamBlocks)) → length (layouts_from size edits i streams) ≡ length (sizes_from edits i (sizes_in streams))
length-layouts_from size edits i [] = refl
length-layouts_from size edits i (x ∷ streams) = ap suc (length-layouts_from size edits (i + 1) streams)

pub no_blocks : (size : ℕ) → 0 < size → blocks_of_size size 0 ≡ 0
no_blocks size some = div-eq_of_lt (omega (arith, some))

pub all_blocks : (size : ℕ) (edits : List StreamEdit) (streams : List (Option StreamBlocks)) → 0 < size → length (all_parts (layouts size edits streams)) ≡ stream_blocks size (sizes_after edits (sizes_in streams))
unfolding layouts
all_blocks size edits [] some = refl
all_blocks size edits (x ∷ streams) some =
    let rest = sizes_from edits 1 (sizes_in streams) in
    parts_from size edits 1 streams ∙ sym (sum_by-cons (block_count size) (Some 0) rest ∙ ap (λ n. n + stream_blocks size rest) (no_blocks size some) ∙ nothing (stream_blocks size rest))
  where
    nothing : (n : ℕ) → 0 + n ≡ n
    nothing n = omega arith

all_layouts : (size : ℕ) (edits : List StreamEdit) (streams : List (Option StreamBlocks)) → length (layouts size edits streams) ≡ length (sizes_after edits (sizes_in streams))
unfolding layouts
all_layouts size edits [] = refl
all_layouts size edits (x ∷ streams) = ap suc (length-layouts_from size edits 1 streams)

pub planned_bytes : (old : Image) (edits : List StreamEdit) → 0 < old.head.block → new_dir_bytes old edits ≡ bytes_for old.head.block (sizes_after edits (sizes_in old.directory))
unfolding new_dir_bytes new_layouts
planned_bytes old edits some = λ k. directory_len (all_layouts old.head.block edits old.directory k) (all_blocks old.head.block edits old.directory some k)

-- ---- the blocks of sized streams

pub blocks_sized : (size : ℕ) (streams : List (Option StreamBlocks)) → AllByRecursion (IsSized size) streams → length (flat_map blocks_in streams) ≡ stream_blocks size (sizes_in streams)
blocks_sized size [] sized = refl
blocks_sized size (None ∷ streams) sized = omega (arith, blocks_sized size streams sized.1, sum_by-cons (block_count size) None (sizes_in streams))
blocks_sized size (Some s ∷ streams) sized =
    omega (arith, length-append s.blocks (flat_map blocks_in streams), blocks_sized size streams sized.1, sum_by-cons (block_count size) (Some s.size) (sizes_in streams), sized.0.1)

-- ---- the sizes that a commit gives

same_past : (a b : Sizes) (i : ℕ) → length a ≡ length b → length b ≤ i → size_at a i ≡ size_at b i
same_past a b i is le = get_or_past a i None (omega (arith, is, le)) ∙ sym (get_or_past b i None le)

-- a stream that no commit writes has the size that it had
base_other : (fresh : Bool) (block blocks : ℕ) (opened sizes : Sizes) (kept : KeptNumbers) (info : List ℕ) (first old : Tables) (i : ℕ) → CanKeep kept info → AreBaseSizes fresh (shape_of block blocks opened kept) first old sizes → IsOther kept i
    → size_at sizes i ≡ size_at opened i
base_other true block blocks opened sizes kept info first old i can base other = ap (λ s. size_at s i) base.0
base_other false block blocks opened sizes kept info first old i can base other =
    let shape = shape_of block blocks opened kept in
    ap (λ s. size_at s i) base
    ∙ elim (cases_lt i (length opened)) [
      | inl lt ↦ written_at shape old i lt ∙ written_other block blocks opened kept info can old (size_at opened i) i other
      | inr le ↦ same_past (written_sizes shape old) opened i (length-written_sizes shape old) le
    ]

base_count : (fresh : Bool) (shape : Shape) (first old : Tables) (sizes : Sizes) → AreBaseSizes fresh shape first old sizes → length sizes ≡ length shape.sizes
base_count true shape first old sizes base = ap length base.0
base_count false shape first old sizes base = ap length base ∙ length-written_sizes shape old

first_size : (edits : List StreamEdit) (sizes : Sizes) (n : ℕ) → size_at sizes 1 ≡ Some n → size_at (sizes_after edits sizes) 0 ≡ Some 0
first_size edits [] n there = absurd cc
first_size edits (x ∷ sizes) n there = refl

module _ (size blocks : ℕ) (fresh : Bool) (limits : Bounds) (kept : KeptNumbers) (info : List ℕ) (age : ℕ) (first old tables : Tables) (opened sizes : Sizes) (can : CanKeep kept info) (have : HaveRoom kept info first opened)
    (base : AreBaseSizes fresh (shape_of size blocks opened kept) first old sizes) (on : GoesOn old tables) (within : AreWithin limits tables) (short : length info < absent_size) where
  abbrev shape : Shape
  shape = shape_of size blocks opened kept

  abbrev its_changes : List Change
  its_changes = changes size kept (extent_of fresh old) info age tables

  abbrev its_sizes : Sizes
  its_sizes = sizes_after (all_edits its_changes) sizes

  abbrev HasSize : ℕ → Type 0
  HasSize i = size_at its_sizes i ≡ written_size shape tables i (size_at opened i)

  one_size : (i : ℕ) → HasSize i
  one_size =
      let s = base_sizes fresh size blocks opened sizes kept info first old can have base in
      let apart = distinct size kept (extent_of fresh old) info age tables can in
      let m = made size fresh limits kept info age old tables sizes can on within short s in
      let all = changes_size size sizes its_changes apart m in
      let was = λ (i : ℕ). size_at opened i in
      let info_same : HasSize 1 =
      all.0 ∙ ap Some (length-with_age info age (named_long info (codes "/names") kept.names_stream can.names)) ∙ sym have.info_stream ∙ sym (written_info size blocks opened kept info can tables (was 1)) in
      by_number kept HasSize (first_size (all_edits its_changes) sizes (length info) s.info_there) info_same
      (all.1.0 ∙ ap Some (length-record_stream_text kept.types tables.types.records))
      (all.1.1.0 ∙ ap Some (length-record_stream_text kept.items tables.items.records))
      (all.1.1.1.0 ∙ ap Some (length-hash_text kept.types.buckets tables.types.records) ∙ sym (written_type_hashes size blocks opened kept info can tables (was kept.types.hash_stream)))
      (all.1.1.1.1.0 ∙ ap Some (length-hash_text kept.items.buckets tables.items.records) ∙ sym (written_item_hashes size blocks opened kept info can tables (was kept.items.hash_stream)))
      (all.1.1.1.1.1.0 ∙ ap Some (length-names_text tables.names.version tables.names.names) ∙ sym (written_names size blocks opened kept info can tables (was kept.names_stream)))
      (λ i o.
      changes_keep_size size sizes its_changes i apart m (positive i o.n0)
      ((λ e. o.n1 (sym e)), ((λ e. o.n2 (sym e)), ((λ e. o.n4 (sym e)), ((λ e. o.types (sym e)), ((λ e. o.items (sym e)), ((λ e. o.names (sym e)), tt))))))
      ∙ base_other fresh size blocks opened sizes kept info first old i can base o ∙ sym (written_other size blocks opened kept info can tables (was i) i o))

  pub commit_sizes : sizes_after (commit_edits size kept (extent_of fresh old) info age tables) sizes ≡ written_sizes shape tables
  commit_sizes =
      let n : length its_sizes ≡ length opened = length-sizes_after (all_edits its_changes) sizes ∙ base_count fresh shape first old sizes base in
      ap (λ es. sizes_after es sizes) (all_changes size kept (extent_of fresh old) info age tables)
      ∙ ext_get_or None its_sizes (written_sizes shape tables) (n ∙ sym (length-written_sizes shape tables)) (λ i lt. one_size i ∙ sym (written_at shape tables i (omega (arith, lt, n))))
