-- The blocks of a file: their sizes, which of them are reserved, and where the free block maps lie.
use Rattle.std.specs.Prelude.{◌≡◌, ℕ, ◌+◌, ◌-◌, ◌*◌, ◌/◌, ◌%◌, ◌==◌, ◌||◌, ◌⊎◌, Bool, IsTrue, List, [], ◌∷◌}
use Rattle.std.specs.List.{list_any}

-- the sizes that a block may have
abbrev pub block_sizes : List ℕ
block_sizes = 512 ∷ 1024 ∷ 2048 ∷ 4096 ∷ 8192 ∷ 16384 ∷ 32768 ∷ []

abbrev pub is_block_size : ℕ → Bool
is_block_size n = list_any (λ size. size == n) block_sizes

abbrev pub IsBlockSize : ℕ → Type 0
IsBlockSize n = IsTrue (is_block_size n)

-- Block 0 begins with the superblock. In each run of block_size blocks the second and the third are for
-- the two free block maps.
abbrev pub is_reserved : ℕ → ℕ → Bool
is_reserved block_size b = b == 0 || b % block_size == 1 || b % block_size == 2

abbrev pub IsReserved : ℕ → ℕ → Type 0
IsReserved block_size b = IsTrue (is_reserved block_size b)

-- how many blocks so many bytes take
abbrev pub blocks_of_size : ℕ → ℕ → ℕ
blocks_of_size block_size size = (size + (block_size - 1)) / block_size

-- the first byte of a block in the file
abbrev pub block_offset : ℕ → ℕ → ℕ
block_offset block_size b = b * block_size

-- the number of a free block map
abbrev pub IsMap : ℕ → Type 0
IsMap map = (map ≡ 1) ⊎ (map ≡ 2)

-- A map is these blocks joined, for j = 0, 1, 2 and so on. Each has a bit for 8 * block_size blocks.
abbrev pub map_block : ℕ → ℕ → ℕ → ℕ
map_block block_size map j = map + j * block_size

-- how many blocks of a map carry meaning in a file of so many blocks
abbrev pub map_blocks : ℕ → ℕ → ℕ
map_blocks block_size blocks = blocks_of_size (8 * block_size) blocks
