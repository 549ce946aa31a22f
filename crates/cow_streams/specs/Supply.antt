-- The blocks that a commit may take, in the order in which it takes them.
use Rattle.std.specs.Prelude.{ℕ, zero, suc, ◌+◌, ◌-◌, ◌%◌, ◌==◌, nat_lt, if◌then◌else◌, List, [], ◌∷◌, ◌++◌, length, take}

-- the least block from b on that is not reserved, where b is not 0
abbrev pub next_unreserved : ℕ → ℕ → ℕ
next_unreserved block_size b =
    if b % block_size == 1 then b + 2 else (if b % block_size == 2 then b + 1 else b)

-- so many unreserved blocks from b on, without a gap
abbrev pub unreserved_from : ℕ → ℕ → ℕ → List ℕ
unreserved_from block_size b zero = []
unreserved_from block_size b (suc count) =
    next_unreserved block_size b ∷ unreserved_from block_size (next_unreserved block_size b + 1) count

-- So many blocks to give in a file of so many blocks, of which these are free in rising order: the least free ones, and
-- after those the next past the end.
unfoldable pub supply : ℕ → ℕ → List ℕ → ℕ → List ℕ
supply block_size blocks free count = take count free ++ unreserved_from block_size blocks (count - length free)

-- how many blocks the file has when these are given: the old number, or one more than the greatest given
abbrev pub blocks_with : ℕ → List ℕ → ℕ
blocks_with blocks [] = blocks
blocks_with blocks (b ∷ given) = blocks_with (if nat_lt b blocks then blocks else b + 1) given
