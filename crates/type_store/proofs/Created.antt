-- The streams of a new file can be packed, and what is packed can be committed to.
use Rattle.std.proofs.Common.{◌≡◌, ◌≤◌, ◌<◌, ◌+◌, ◌-◌, ◌*◌, ◌/◌, ◌^◌, ℕ, IsTrue, List, [], ◌∷◌, length, map, drop, Option, None, Some, Ok, refl, sym, ap, subst, ◌∙◌, arith}
use Rattle.std.specs.Option.{option_map}
use Rattle.std.proofs.lemmas.List.Elements.{All-cons, All-nil}
use Rattle.std.proofs.lemmas.List.Sums.{sum_by-cons}
use Rattle.std.proofs.lemmas.Nat.{mul-le}
use Rattle.std.proofs.Math.Nat.{div-eq_of_lt, div-eq_of_lt-le}
use Rattle.info_stream.specs.Text.{new_info}
use Rattle.info_stream.proofs.Ages.{age_in-new_info, length-new_info}
use Rattle.msf_blocks.specs.Blocks.{IsBlockSize, blocks_of_size}
use Rattle.msf_blocks.proofs.Sizes.{sized}
use Rattle.stream_directory.specs.Directory.{StreamBlocks, absent_size, directory_text}
use Rattle.stream_directory.proofs.Streams.{Spells-directory_text}
use Rattle.msf_image.specs.Packed.{IsPackable, directory_blocks_of, directory_bytes, given_block, packed_directory, packed_image, packed_map_addr, packed_super, stream_blocks, stream_bytes, stream_count, streams_from}
use Rattle.msf_image.specs.Spelled.{IsSpelled}
use Rattle.msf_image.proofs.PackedStreams.{length-packed_text, none_skipped}
use Rattle.names_table.specs.Text.{names_text}
use Rattle.names_table.proofs.Growing.{length-names_text}
use Rattle.srv_edge.specs.declared.failed.Limits.{Limits}
use Rattle.table_model.specs.Bounds.{Bounds, bounds_of}
use Rattle.table_model.specs.Tables.{empty_tables}
use Rattle.tpi_stream.specs.Hashes.{index_offsets}
use Rattle.tpi_stream.specs.Written.{record_stream_text}
use Rattle.tpi_stream.proofs.WrittenStreams.{length-record_stream_text}
use Rattle.type_store.specs.Holds.{Contents}
use Rattle.type_store.specs.NewFile.{new_contents, new_kept, new_numbers}
use Rattle.type_store.specs.Opening.{AreStreams}
use Rattle.type_store.specs.Shape.{HaveRoom, Sizes, sizes_in, sizes_of}
use Rattle.type_store.proofs.NewFile.{empty_within, new_can_keep}

-- ---- the sizes of its streams

length-no_records : (hash_stream : ℕ) → length (record_stream_text (new_kept hash_stream) []) ≡ 56
length-no_records hash_stream = length-record_stream_text (new_kept hash_stream) []

length-no_names : length (names_text 1 []) ≡ 29
length-no_names = length-names_text 1 []

no_block : (size : ℕ) → IsBlockSize size → blocks_of_size size 0 ≡ 0
no_block size h = div-eq_of_lt (omega (arith, (sized size h).least))

one_block : (size n m : ℕ) → IsBlockSize size → m ≡ n → 1 ≤ n → n ≤ 512 → blocks_of_size size m ≡ 1
one_block size n m h is some few = let least = (sized size h).least in div-eq_of_lt-le size (omega (arith, is, some, least)) (omega (arith, is, few, least))

module _ (size : ℕ) (guid : List ℕ) (signature : ℕ) (h : IsBlockSize size) (len : length guid ≡ 16) where
  abbrev contents : Contents
  contents = new_contents guid signature

  four_blocks : stream_blocks size contents ≡ 4
  four_blocks =
      let n0 = no_block size h in
      let n1 = one_block size 75 (length (new_info guid signature)) h (length-new_info guid signature len) (omega arith) (omega arith) in
      let n2 = one_block size 56 (length (record_stream_text (new_kept 5) [])) h (length-no_records 5) (omega arith) (omega arith) in
      let n4 = one_block size 56 (length (record_stream_text (new_kept 6) [])) h (length-no_records 6) (omega arith) (omega arith) in
      let n7 = one_block size 29 (length (names_text 1 [])) h length-no_names (omega arith) (omega arith) in
      let add = λ (x : Option (List ℕ)) (rest : Contents). sum_by-cons (stream_count size) x rest in
      omega (
        arith,
        n0,
        n1,
        n2,
        n4,
        n7,
        add (Some []) (drop 1 contents),
        add (Some (new_info guid signature)) (drop 2 contents),
        add (Some (record_stream_text (new_kept 5) [])) (drop 3 contents),
        add (Some []) (drop 4 contents),
        add (Some (record_stream_text (new_kept 6) [])) (drop 5 contents),
        add (Some []) (drop 6 contents),
        add (Some []) (drop 7 contents),
        add (Some (names_text 1 [])) [],
      )

  bytes_of_directory : directory_bytes size contents ≡ 52
  unfolding directory_bytes
  bytes_of_directory = omega (arith, four_blocks)

  one_listed : directory_blocks_of size contents ≡ 1
  one_listed = one_block size 52 (directory_bytes size contents) h bytes_of_directory (omega arith) (omega arith)

  fifth : (k : ℕ) → k ≡ 5 → given_block size k ≡ 8
  unfolding given_block
  fifth k is = let none : k / (size - 2) ≡ 0 = div-eq_of_lt (omega (arith, is, (sized size h).least)) in omega (arith, is, none)

  map_is : packed_map_addr size contents ≡ 8
  unfolding packed_map_addr
  map_is = fifth (stream_blocks size contents + directory_blocks_of size contents) (omega (arith, four_blocks, one_listed))

  pub nine_blocks : (limits : Limits) → (packed_super size 0 contents).blocks ≤ limits.blocks
  nine_blocks limits = omega (arith, map_is, limits.some_blocks)

  abbrev Short : Option (List ℕ) → Type 0
  Short stream = length (stream_bytes stream) < absent_size

  pub new_packable : IsPackable size contents
  new_packable =
      let none : Short (Some []) = omega arith in
      let info : Short (Some (new_info guid signature)) = omega (arith, length-new_info guid signature len) in
      let types : Short (Some (record_stream_text (new_kept 5) [])) = omega (arith, length-no_records 5) in
      let items : Short (Some (record_stream_text (new_kept 6) [])) = omega (arith, length-no_records 6) in
      let names : Short (Some (names_text 1 [])) = omega (arith, length-no_names) in
      let least = (sized size h).least in
      let square = mul-le 512 512 size size least least in
      record {
        block = h;
        first = refl;
        few = omega arith;
        sizes = All-cons Short (Some []) (drop 1 contents) none (All-cons Short (Some (new_info guid signature)) (drop 2 contents) info (All-cons Short (Some (record_stream_text (new_kept 5) [])) (drop 3 contents) types (All-cons Short (Some []) (drop 4 contents) none (All-cons Short (Some (record_stream_text (new_kept 6) [])) (drop 5 contents) items (All-cons Short (Some []) (drop 6 contents) none (All-cons Short (Some []) (drop 7 contents) none (All-cons Short (Some (names_text 1 [])) (drop 8 contents) names (All-nil Short))))))));
        directory = omega (arith, bytes_of_directory, square);
        blocks = omega (arith, map_is);
      }

  pub new_spelled : IsSpelled (packed_image size 0 contents).head (packed_image size 0 contents).directory
  new_spelled =
      let text = directory_text (packed_directory size contents) in
      record { text = text; spelled = Spells-directory_text size (packed_directory size contents) text (none_skipped size contents new_packable) refl; short = omega (arith, length-packed_text size contents h) }

-- ---- what it holds

sizes_from : (size k : ℕ) (streams : Contents) → sizes_in (streams_from size k streams) ≡ sizes_of streams
sizes_from size k [] = refl
sizes_from size k (None ∷ streams) = ap (λ (sizes : Sizes). None ∷ sizes) (sizes_from size (k + stream_count size None) streams)
sizes_from size k (Some bytes ∷ streams) = ap (λ (sizes : Sizes). Some (length bytes) ∷ sizes) (sizes_from size (k + stream_count size (Some bytes)) streams)

sizes_packed : (size : ℕ) (streams : Contents) → sizes_in (packed_directory size streams) ≡ sizes_of streams
unfolding packed_directory
sizes_packed size streams = sizes_from size 0 streams

pub new_streams : (size : ℕ) (guid : List ℕ) (signature : ℕ) (limits : Limits) → length guid ≡ 16 → HaveRoom new_numbers (new_info guid signature) (empty_tables limits) (sizes_of (new_contents guid signature))
    → AreStreams (bounds_of limits) (packed_directory size (new_contents guid signature)) new_numbers (new_info guid signature) 1 (empty_tables limits)
new_streams size guid signature limits len room = record {
  can = new_can_keep guid signature len;
  age_is = age_in-new_info guid signature len;
  small = omega arith;
  within = empty_within limits;
  room = subst (λ (sizes : Sizes). HaveRoom new_numbers (new_info guid signature) (empty_tables limits) sizes) (sym (sizes_packed size (new_contents guid signature))) room;
}
