-- How large a file is that commits leave, by the sizes of the streams that were opened or created.
use Rattle.std.specs.Prelude.{◌≡◌, ◌≤◌, ℕ, zero, suc, ◌+◌, ◌*◌, ◌==◌, Bool, true, false, if◌then◌else◌, List, length, map, slice_index_or, Option, Some, None, IsSome}
use Rattle.std.specs.List.{range_with_len, sum_by}
use Rattle.std.specs.Option.{option_map}
use Rattle.srv_edge.specs.Records.{joined}
use Rattle.msf_blocks.specs.Blocks.{blocks_of_size, is_reserved}
use Rattle.stream_directory.specs.Directory.{StreamBlocks}
use Rattle.msf_image.specs.Packed.{directory_len}
use Rattle.tpi_stream.specs.declared.header.TheConstants.{HEADER_BYTES, KEY_BYTES}
use Rattle.tpi_stream.specs.Hashes.{index_offsets}
use Rattle.names_table.specs.declared.read.TheConstants as names
use Rattle.names_table.specs.Buckets.{bucket_count}
use Rattle.names_table.specs.Names.{bytes_of}
use Rattle.table_model.specs.Tables.{Tables}
use Rattle.type_store.specs.Holds.{Contents}
use Rattle.type_store.specs.Written.{KeptNumbers}

-- the sizes of all streams, stream 0 first: an absent one has none
abbrev pub Sizes : Type 0
Sizes = List (Option ℕ)

abbrev pub size_at : Sizes → ℕ → Option ℕ
size_at sizes i = slice_index_or sizes i None

-- of contents, and of the streams of a directory
abbrev pub sizes_of : Contents → Sizes
sizes_of contents = map (option_map (λ (stream : List ℕ). length stream)) contents

abbrev pub sizes_in : List (Option StreamBlocks) → Sizes
sizes_in streams = map (option_map (λ (stream : StreamBlocks). stream.size)) streams

-- The numbers of an opened or created file on which the size of its directory and the number of its blocks rest, whatever is
-- committed to it.
pub record Shape : Type 0 where
  pub block : ℕ
  pub blocks : ℕ
  pub sizes : Sizes
  pub type_hashes : ℕ
  pub item_hashes : ℕ
  pub names_stream : ℕ

abbrev pub shape_of : ℕ → ℕ → Sizes → KeptNumbers → Shape
shape_of block blocks sizes kept = record {
  block = block;
  blocks = blocks;
  sizes = sizes;
  type_hashes = kept.types.hash_stream;
  item_hashes = kept.items.hash_stream;
  names_stream = kept.names_stream;
}

-- the sizes of the streams that are written for records and for names
abbrev pub record_stream_size : List (List ℕ) → ℕ
record_stream_size records = HEADER_BYTES + length (joined records)

abbrev pub hash_stream_size : List (List ℕ) → ℕ
hash_stream_size records = KEY_BYTES * length records + length (index_offsets records)

abbrev pub names_stream_size : List (List ℕ) → ℕ
names_stream_size list = names.HEADER_BYTES + bytes_of list + 4 + 4 * bucket_count (length list) + 4

-- the size of stream i of a file that is written for tables, where it was opened with this one
abbrev pub written_size : Shape → Tables → ℕ → Option ℕ → Option ℕ
written_size shape tables i opened =
    if i == 0 then Some 0
    else (if i == 2 then Some (record_stream_size tables.types.records)
    else (if i == 4 then Some (record_stream_size tables.items.records)
    else (if i == shape.type_hashes then Some (hash_stream_size tables.types.records)
    else (if i == shape.item_hashes then Some (hash_stream_size tables.items.records)
    else (if i == shape.names_stream then Some (names_stream_size tables.names.names)
    else opened)))))

-- the sizes of all its streams
unfoldable pub written_sizes : Shape → Tables → Sizes
written_sizes shape tables = map (λ i. written_size shape tables i (size_at shape.sizes i)) (range_with_len 0 (length shape.sizes))

-- the blocks of streams of these sizes
abbrev pub block_count : ℕ → Option ℕ → ℕ
block_count block None = 0
block_count block (Some size) = blocks_of_size block size

abbrev pub stream_blocks : ℕ → Sizes → ℕ
stream_blocks block sizes = sum_by (block_count block) sizes

-- the bytes of a directory of streams of these sizes
abbrev pub bytes_for : ℕ → Sizes → ℕ
bytes_for block sizes = directory_len (length sizes) (stream_blocks block sizes)

-- and of that of a file which is written for tables
abbrev pub directory_bytes : Shape → Tables → ℕ
directory_bytes shape tables = bytes_for shape.block (written_sizes shape tables)

-- the blocks that it uses: those of its streams and of its directory, and the block map
abbrev pub used_blocks : Shape → Tables → ℕ
used_blocks shape tables = stream_blocks shape.block (written_sizes shape tables) + blocks_of_size shape.block (directory_bytes shape tables) + 1

-- how many numbers below one pass a test
abbrev pub count_below : (ℕ → Bool) → ℕ → ℕ
count_below test zero = 0
count_below test (suc n) = (if test n then 1 else 0) + count_below test n

-- how many blocks below one are reserved
abbrev pub reserved_below : ℕ → ℕ → ℕ
reserved_below block n = count_below (is_reserved block) n

-- a number of blocks that a commit of tables may ask for
abbrev pub MayNeed : Shape → Tables → ℕ → Type 0
MayNeed shape tables n = n ≤ shape.blocks + 2 * used_blocks shape tables + reserved_below shape.block n

-- ---- the sizes of the streams of an image

-- a stream of this size has at least so many bytes
abbrev pub Reaches : Option ℕ → ℕ → Type 0
Reaches None bytes = ⊥
Reaches (Some size) bytes = bytes ≤ size

-- The streams of a file that holds tables: those that a commit writes are there, and the records of the tables lie in theirs.
pub record HaveRoom (kept : KeptNumbers) (info : List ℕ) (tables : Tables) (sizes : Sizes) : Type 0 where
  pub info_stream : size_at sizes 1 ≡ Some (length info)
  pub types : Reaches (size_at sizes 2) (record_stream_size tables.types.records)
  pub items : Reaches (size_at sizes 4) (record_stream_size tables.items.records)
  pub type_hashes : IsSome (size_at sizes kept.types.hash_stream)
  pub item_hashes : IsSome (size_at sizes kept.items.hash_stream)
  pub names : IsSome (size_at sizes kept.names_stream)

-- The sizes of the streams on which a commit may be built, by whether they are fresh: those that were opened, with the tables
-- that they hold; or those of a file that is written for its tables.
abbrev pub AreBaseSizes : Bool → Shape → Tables → Tables → Sizes → Type 0
AreBaseSizes true shape first tables sizes = (sizes ≡ shape.sizes) × (tables ≡ first)
AreBaseSizes false shape first tables sizes = sizes ≡ written_sizes shape tables
