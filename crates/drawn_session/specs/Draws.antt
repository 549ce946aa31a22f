-- Draws from a seed.
use Rattle.std.specs.Prelude.{ℕ, zero, suc, ◌+◌, ◌*◌, ◌/◌, ◌%◌, ◌^◌}

-- the number that comes behind a number
unfoldable pub next_number : ℕ → ℕ
next_number x = (x * 6364136223846793005 + 1442695040888963407) % 2 ^ 64

-- the number that comes so many steps behind one
unfoldable pub number_behind : ℕ → ℕ → ℕ
number_behind x zero = x
number_behind x (suc n) = next_number (number_behind x n)

-- what is drawn with a number: its upper 31 bits
abbrev pub drawn_with : ℕ → ℕ
drawn_with x = x / 2 ^ 33

-- what is drawn behind a number, after so many draws
abbrev pub draw_behind : ℕ → ℕ → ℕ
draw_behind x n = drawn_with (next_number (number_behind x n))
