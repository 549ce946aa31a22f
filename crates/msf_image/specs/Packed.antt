-- A packed file: streams in a file that has no free block.
use Rattle.std.specs.Prelude.{◌≡◌, ◌≤◌, ◌<◌, ℕ, ◌+◌, ◌-◌, ◌*◌, ◌/◌, ◌%◌, ◌^◌, ◌==◌, if◌then◌else◌, List, [], ◌∷◌, ◌++◌, length, map, take, drop, replicate, slice_index_or, All, Option, Some, None}
use Rattle.std.specs.List.{flat_map, range_with_len, sum_by}
use Rattle.msf_blocks.specs.declared.superblock.Super.{Super}
use Rattle.msf_blocks.specs.Blocks.{IsBlockSize, block_offset, blocks_of_size}
use Rattle.msf_blocks.specs.Superblock.{superblock_text}
use Rattle.free_page_maps.specs.FreeBlocks.{FreeBlocks}
use Rattle.free_page_maps.specs.MapText.{map_text}
use Rattle.stream_directory.specs.Directory.{StreamBlocks, absent_size, directory_text, word}
use Rattle.msf_image.specs.declared.image.Image.{Image}

-- block k of a run of bytes, which has zeros past their end
unfoldable pub block_of : ℕ → List ℕ → ℕ → List ℕ
block_of size bytes k = take size (drop (block_offset size k) bytes ++ replicate size 0)

-- bytes filled up with zeros to whole blocks
abbrev pub filled : ℕ → List ℕ → List ℕ
filled size bytes = bytes ++ replicate (blocks_of_size size (length bytes) * size - length bytes) 0

-- The k-th block of those from 3 on that are not reserved, counted from 0: after each size - 2 of them stand two for the maps.
unfoldable pub given_block : ℕ → ℕ → ℕ
given_block size k = 3 + k + 2 * (k / (size - 2))

-- how many of them stand before a block
unfoldable pub given_before : ℕ → ℕ → ℕ
given_before size b = b - 3 - 2 * ((b - 1) / size)

-- so many of them, from the k-th on
abbrev pub given_from : ℕ → ℕ → ℕ → List ℕ
given_from size k count = map (given_block size) (range_with_len k count)

-- A stream is its bytes, or absent. An absent one has none.
abbrev pub stream_bytes : Option (List ℕ) → List ℕ
stream_bytes None = []
stream_bytes (Some bytes) = bytes

-- streams that are all there
abbrev pub present : List (List ℕ) → List (Option (List ℕ))
present streams = map Some streams

-- how many blocks a stream has, and all streams
abbrev pub stream_count : ℕ → Option (List ℕ) → ℕ
stream_count size stream = blocks_of_size size (length (stream_bytes stream))

abbrev pub stream_blocks : ℕ → List (Option (List ℕ)) → ℕ
stream_blocks size streams = sum_by (stream_count size) streams

-- a stream with its blocks, of which the first is the k-th given one
abbrev pub stream_from : ℕ → ℕ → Option (List ℕ) → Option StreamBlocks
stream_from size k None = None
stream_from size k (Some bytes) = Some (record { size = length bytes; blocks = given_from size k (blocks_of_size size (length bytes)) })

-- the streams, each with the blocks that come next
abbrev pub streams_from : ℕ → ℕ → List (Option (List ℕ)) → List (Option StreamBlocks)
streams_from size k [] = []
streams_from size k (stream ∷ streams) = stream_from size k stream ∷ streams_from size (k + stream_count size stream) streams

unfoldable pub packed_directory : ℕ → List (Option (List ℕ)) → List (Option StreamBlocks)
packed_directory size streams = streams_from size 0 streams

-- how many bytes and blocks a directory has, by the number of its streams and of their blocks
abbrev pub directory_len : ℕ → ℕ → ℕ
directory_len streams blocks = 4 + 4 * streams + 4 * blocks

unfoldable pub directory_bytes : ℕ → List (Option (List ℕ)) → ℕ
directory_bytes size streams = directory_len (length streams) (stream_blocks size streams)

abbrev pub directory_blocks_of : ℕ → List (Option (List ℕ)) → ℕ
directory_blocks_of size streams = blocks_of_size size (directory_bytes size streams)

-- the blocks of the directory, which come behind those of the streams
unfoldable pub packed_listed : ℕ → List (Option (List ℕ)) → List ℕ
packed_listed size streams = given_from size (stream_blocks size streams) (directory_blocks_of size streams)

-- the block map, which comes last
unfoldable pub packed_map_addr : ℕ → List (Option (List ℕ)) → ℕ
packed_map_addr size streams = given_block size (stream_blocks size streams + directory_blocks_of size streams)

abbrev pub packed_super : ℕ → ℕ → List (Option (List ℕ)) → Super
packed_super size unknown streams = record {
  block = size;
  map = 1;
  blocks = packed_map_addr size streams + 1;
  dir_bytes = directory_bytes size streams;
  unknown = unknown;
  map_addr = packed_map_addr size streams;
}

-- so many blocks of which none is free
abbrev pub none_of : ℕ → FreeBlocks
none_of blocks = record { blocks = blocks; free = [] }

-- what a packed file reads as
abbrev pub packed_image : ℕ → ℕ → List (Option (List ℕ)) → Image
packed_image size unknown streams = record {
  head = packed_super size unknown streams;
  directory = packed_directory size streams;
  free = none_of (packed_map_addr size streams + 1);
}

-- what the given blocks hold in their order: the streams, the directory and the block map
unfoldable pub packed_content : ℕ → List (Option (List ℕ)) → List ℕ
packed_content size streams =
    flat_map (λ stream. filled size (stream_bytes stream)) streams ++ (filled size (directory_text (packed_directory size streams)) ++ flat_map word (packed_listed size streams))

-- Block b of a file: the superblock, a block of map 1, one of map 2, or a given one.
unfoldable pub file_block : ℕ → List ℕ → List ℕ → List ℕ → ℕ → List ℕ
file_block size head map1 content b =
    if b == 0 then block_of size head 0
    else (if b % size == 1 then block_of size map1 (b / size)
    else (if b % size == 2 then block_of size [] 0
    else block_of size content (given_before size b)))

-- the blocks of a file, joined
unfoldable pub file_of : ℕ → List ℕ → List ℕ → List ℕ → ℕ → List ℕ
file_of size head map1 content blocks = flat_map (file_block size head map1 content) (range_with_len 0 blocks)

-- the packed file of these streams
unfoldable pub packed_file : ℕ → ℕ → List (Option (List ℕ)) → List ℕ
packed_file size unknown streams =
    let s = packed_super size unknown streams in
    file_of size (superblock_text s) (map_text size (none_of s.blocks)) (packed_content size streams) s.blocks

-- Streams that a packed file can hold. Stream 0 is empty or absent.
pub record IsPackable (size : ℕ) (streams : List (Option (List ℕ))) : Type 0 where
  pub block : IsBlockSize size
  pub first : stream_bytes (slice_index_or streams 0 None) ≡ []
  pub few : length streams < 2 ^ 16
  pub sizes : All (λ stream. length (stream_bytes stream) < absent_size) streams
  pub directory : directory_bytes size streams ≤ size * size / 4
  pub blocks : packed_map_addr size streams + 1 ≤ 2 ^ 20

-- its last two tests, by the number of the streams and of their blocks
pub record IsSmall (size streams kept : ℕ) : Type 0 where
  pub directory : directory_len streams kept ≤ size * size / 4
  pub blocks : given_block size (kept + blocks_of_size size (directory_len streams kept)) + 1 ≤ 2 ^ 20
