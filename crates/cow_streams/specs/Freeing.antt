-- Free blocks without those that are used.
use Rattle.std.specs.Prelude.{ℕ, List, [], ◌∷◌}
use Rattle.free_page_maps.specs.FreeBlocks.{FreeBlocks, without}

abbrev pub without_all : FreeBlocks → List ℕ → FreeBlocks
without_all m [] = m
without_all m (b ∷ blocks) = without_all (without m b) blocks
