-- Bits in a list of bytes. Bit 0 of a byte has the value 1.
use Rattle.std.specs.Prelude.{ℕ, ◌/◌, ◌%◌, ◌==◌, Bool, List, slice_index}
use Rattle.std.specs.Int.{bit_at}

-- bit b is bit b mod 8 of byte b div 8
abbrev pub has_bit : List ℕ → ℕ → Bool
has_bit bits b = bit_at (slice_index bits (b / 8)) (b % 8) == 1
