-- Numeric leaves and texts: the parts of a record whose bytes say how long they are.
use Rattle.std.specs.Prelude.{ℕ, ◌+◌, ◌==◌, nat_lt, List, length, drop, Option, Some, None, Result, Ok, Err, if◌then◌else◌}
use Rattle.std.specs.Option.{option_map}
use Rattle.std.specs.List.{position}
use Rattle.byteorder.specs.Endian.{little_number}
use Rattle.leaf_words.specs.declared.NumericFault.{NumericFault}
use Rattle.leaf_words.specs.declared.NumericFault.TheVariants.{Short, Unknown}

-- How many bytes follow the first two of a numeric leaf. Below 8000 they are the value itself. 8000 is
-- a char, 8001 and 8002 a short, 8003 and 8004 a long, 8009 and 800A a quadword, signed and unsigned.
abbrev pub tail_size : ℕ → Option ℕ
tail_size value =
    if nat_lt value 0x8000 then Some 0
    else if value == 0x8000 then Some 1
    else if value == 0x8001 then Some 2
    else if value == 0x8002 then Some 2
    else if value == 0x8003 then Some 4
    else if value == 0x8004 then Some 4
    else if value == 0x8009 then Some 8
    else if value == 0x800A then Some 8
    else None

abbrev pub tail_end : List ℕ → ℕ → Option ℕ → Result ℕ NumericFault
tail_end bytes at None = Err Unknown
tail_end bytes at (Some size) = if nat_lt (length bytes) (at + size) then Err Short else Ok (at + size)

-- The place behind the numeric leaf that stands at a place. It is short where the bytes end within it,
-- and unknown where its first two are 8000 or more and none of the seven.
abbrev pub numeric_end : List ℕ → ℕ → Result ℕ NumericFault
numeric_end bytes at =
    if nat_lt (length bytes) (at + 2) then Err Short
    else tail_end bytes (at + 2) (tail_size (little_number 2 (drop at bytes)))

-- the bytes before the first NUL, as a number
abbrev pub text_size : List ℕ → Option ℕ
text_size bytes = position (λ byte. byte == 0) bytes

-- the place behind the text that stands at a place: behind the first NUL from there on
abbrev pub end_of_text : List ℕ → ℕ → Option ℕ
end_of_text bytes at = option_map (λ size. at + size + 1) (text_size (drop at bytes))
