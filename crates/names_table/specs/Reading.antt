-- What a stream of names holds, or the first test that it fails.
use Rattle.std.specs.Prelude.{◌≡◌, ◌≢◌, ◌<◌, ◌≤◌, ◌+◌, ◌==◌, ℕ, nat_lt, not, ◌||◌, List, [], ◌∷◌, length, get_or, take, drop, Option, Some, None, unwrap_or, Result, Ok, Err, if◌then◌else◌}
use Rattle.std.specs.Option.{option_map, option_or}
use Rattle.byteorder.specs.Endian.{little_number}
use Rattle.srv_edge.specs.declared.limit.TheConstants.{NAME_BYTES}
use Rattle.names_table.specs.declared.fault.NamesFault.{NamesFault}
use Rattle.names_table.specs.declared.fault.NamesFault.TheVariants.{Header, Size, Text}
use Rattle.names_table.specs.declared.read.TheConstants.{HEADER_BYTES, SIGNATURE}
use Rattle.names_table.specs.Names.{Names}
use Rattle.names_table.specs.Strings.{names_cut}

-- the version of the hashes, how many bytes the strings have, and the strings
abbrev pub version_in : List ℕ → ℕ
version_in stream = little_number 4 (drop 4 stream)

abbrev pub size_in : List ℕ → ℕ
size_in stream = little_number 4 (drop 8 stream)

abbrev pub strings_in : List ℕ → List ℕ
strings_in stream = take (size_in stream) (drop HEADER_BYTES stream)

-- the first test of the header that fails
abbrev pub header_fault : ℕ → List ℕ → Option NamesFault
header_fault max_bytes stream =
    if nat_lt (length stream) HEADER_BYTES then Some (Header 0)
    else (if not (little_number 4 stream == SIGNATURE) then Some (Header 0)
    else (if not (version_in stream == 1 || version_in stream == 2) then Some (Header 4)
    else (if nat_lt max_bytes (size_in stream) || nat_lt (length stream) (HEADER_BYTES + size_in stream) then Some (Size 8)
    else None)))

-- where the first name begins that is longer than names may be, if the first of all begins at this place
abbrev pub first_long : ℕ → List (List ℕ) → Option ℕ
first_long at [] = None
first_long at (x ∷ names) = if nat_lt NAME_BYTES (length x) then Some at else first_long (at + length x + 1) names

-- The first test of the strings that fails: the first byte and the last are NULs, and no name is too long.
abbrev pub text_fault : List ℕ → Option NamesFault
text_fault [] = None
text_fault (b ∷ strings) =
    if not (b == 0) then Some (Text HEADER_BYTES)
    else (if not (get_or (b ∷ strings) (length strings) 0 == 0) then Some (Text (HEADER_BYTES + length strings))
    else option_map Text (first_long (HEADER_BYTES + 1) (names_cut strings)))

-- the first test that fails
abbrev pub first_fault : ℕ → List ℕ → Option NamesFault
first_fault max_bytes stream = option_or (header_fault max_bytes stream) (text_fault (strings_in stream))

-- the names of a stream: those behind the empty one at 0, equal and empty ones at their places
abbrev pub table_in : ℕ → List ℕ → Names
table_in max_bytes stream = record { max_bytes = max_bytes; version = version_in stream; names = names_cut (drop 1 (strings_in stream)) }

-- the first test that fails, or the names
abbrev pub reading : ℕ → List ℕ → Result Names NamesFault
reading max_bytes stream = unwrap_or (option_map Err (first_fault max_bytes stream)) (Ok (table_in max_bytes stream))

-- So many bytes stand before the first NUL, or there is none.
pub record AreBeforeNul (bytes : List ℕ) (n : ℕ) : Type 0 where
  pub within : n ≤ length bytes
  pub none : (i : ℕ) → i < n → get_or bytes i 0 ≢ 0
  pub nul : n < length bytes → get_or bytes n 0 ≡ 0
