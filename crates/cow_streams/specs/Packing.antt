-- The plan of a new file: each given block of the packed file, and the blocks of map 1.
use Rattle.std.specs.Prelude.{ℕ, ◌+◌, List, ◌++◌, map, Option}
use Rattle.std.specs.List.{range_with_len}
use Rattle.free_page_maps.specs.MapText.{map_text}
use Rattle.msf_image.specs.Packed.{block_of, directory_blocks_of, given_block, packed_content, packed_image, stream_blocks}
use Rattle.cow_streams.specs.Planned.{Planned, Write, map_writes}

-- the write of the k-th given block
abbrev pub given_write : ℕ → List ℕ → ℕ → Write
given_write block_size content k = record { block = given_block block_size k; bytes = block_of block_size content k }

-- how many blocks are given: to the streams, the directory and the block map
abbrev pub given_count : ℕ → List (Option (List ℕ)) → ℕ
given_count block_size streams = stream_blocks block_size streams + directory_blocks_of block_size streams + 1

abbrev pub given_writes : ℕ → List (Option (List ℕ)) → List Write
given_writes block_size streams =
    map (given_write block_size (packed_content block_size streams)) (range_with_len 0 (given_count block_size streams))

abbrev pub new_plan : ℕ → List (Option (List ℕ)) → Planned
new_plan block_size streams =
    let image = packed_image block_size 0 streams in
    record { image = image; writes = given_writes block_size streams ++ map_writes image.head (map_text block_size image.free) }
