-- What the values of options and positionals stand for.
use Rattle.std.specs.Prelude.{ℕ, ◌-◌, ◌^◌, ◌&&◌, nat_le, nat_lt, Bool, List, length, Option, Some, None, Result, Ok, Err, if◌then◌else◌, option_and_then}
use Rattle.std.specs.Str.{all_ascii_digits}
use Rattle.std.specs.Str.Parse.{digits_value}
use Rattle.hex.specs.Hex.{decode_sized}
use Rattle.msf_blocks.specs.Blocks.{is_block_size}
use Rattle.command_words.specs.Lines.{Line, Text, value_in}

-- the `?` of a form: the second step, if the first gave a value
infixl 10 ◌>>=◌
abbrev pub ◌>>=◌ : {A B : Type 0} → Option A → (A → Option B) → Option B
Some x >>= f = f x
None >>= f = None

-- what has a property, or nothing
abbrev pub some_if : {A : Type 0} → Bool → A → Option A
some_if b x = if b then Some x else None

-- the value that a result has, if it has one
abbrev pub value_of : {A E : Type 0} → Result A E → Option A
value_of (Ok x) = Some x
value_of (Err e) = None

-- one to ten decimal digits
abbrev pub is_number : Text → Bool
is_number text = nat_lt 0 (length text) && (nat_le (length text) 10 && all_ascii_digits text)

-- the number that a text writes, from one number to another
abbrev pub number_in : ℕ → ℕ → Text → Option ℕ
number_in least most text =
    some_if (is_number text && (nat_le least (digits_value 10 text) && nat_le (digits_value 10 text) most)) (digits_value 10 text)

-- a number of 32 bits
abbrev pub number_of : Text → Option ℕ
number_of text = number_in 0 (2 ^ 32 - 1) text

-- how many units a generated session has
abbrev pub units_of : Text → Option ℕ
units_of text = number_in 1 10000 text

-- how many sessions are served: one or more
abbrev pub sessions_of : Text → Option ℕ
sessions_of text = number_in 1 (2 ^ 32 - 1) text

-- how many workers serve them
abbrev pub workers_of : Text → Option ℕ
workers_of text = number_in 1 64 text

abbrev pub block_size_of : Text → Option ℕ
block_size_of text = do
  size ← number_of text
  some_if (is_block_size size) size

-- the 16 bytes of 32 hexadecimal digits
abbrev pub guid_of : Text → Option (List ℕ)
guid_of text = value_of (decode_sized text 16)

-- what a value stands for, or what is taken where there is none
abbrev pub value_or : {A : Type 0} → A → (Text → Option A) → Option Text → Option A
value_or fallback read None = Some fallback
value_or fallback read (Some text) = read text

-- the same of an option of a line
abbrev pub option_or : {A : Type 0} → A → (Text → Option A) → Text → Line → Option A
option_or fallback read name line = value_or fallback read (value_in name line.options)

-- what the value of an option stands for that has to be there
abbrev pub option_given : {A : Type 0} → (Text → Option A) → Text → Line → Option A
option_given read name line = option_and_then read (value_in name line.options)
