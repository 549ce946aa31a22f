-- The text of a free block map.
use Rattle.std.specs.Prelude.{ℕ, zero, suc, ◌+◌, ◌*◌, ◌||◌, nat_le, if◌then◌else◌, Bool, List, map}
use Rattle.std.specs.List.{range_with_len}
use Rattle.msf_blocks.specs.Blocks.{map_blocks}
use Rattle.free_page_maps.specs.FreeBlocks.{FreeBlocks, is_free}

-- The bit of a block: 1 where the block is free, 0 where it is used or reserved, 1 where it is past the end.
abbrev pub map_bit : FreeBlocks → ℕ → Bool
map_bit m b = nat_le m.blocks b || is_free m b

-- the number of n bits of which bit k is 1 where a test passes k
abbrev pub number_where : ℕ → (ℕ → Bool) → ℕ
number_where zero test = 0
number_where (suc n) test = (if test 0 then 1 else 0) + 2 * number_where n (λ k. test (k + 1))

-- The joined blocks of the map that carry meaning, up to the end of the last.
unfoldable pub map_text : ℕ → FreeBlocks → List ℕ
map_text block_size m =
    map (λ i. number_where 8 (λ k. map_bit m (8 * i + k))) (range_with_len 0 (map_blocks block_size m.blocks * block_size))
