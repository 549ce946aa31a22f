-- The table of names: each name begins at an offset, as it does among the strings of the stream `/names`.
use Rattle.std.specs.Prelude.{◌≡◌, ◌≤◌, ◌⊎◌, ◌+◌, ◌==◌, ℕ, Bool, IsTrue, nat_lt, List, [], ◌∷◌, ◌++◌, length, All, Option, None, Some, unwrap_or, is_none, Result, Ok, Err, is_ok, ◌&&◌, if◌then◌else◌}
use Rattle.std.specs.Option.{option_map}
use Rattle.std.specs.Str.{bytes_eq}
pub use Rattle.srv_edge.specs.Name.{IsName}
use Rattle.srv_edge.specs.declared.limit.TheConstants.{MOST_NAME_BYTES}
use Rattle.srv_edge.specs.Growth.{AnswersOrWants}
use Rattle.names_table.specs.declared.fault.NameFault.{NameFault}
use Rattle.names_table.specs.declared.fault.NameFault.TheVariants.{Full, OutOfMemory}

-- the names, in the order in which they came, how many bytes they may take, and the version of their hashes
pub record Names : Type 0 where
  pub max_bytes : ℕ
  pub version : ℕ
  pub names : List (List ℕ)

-- The bytes that the names take: each has a NUL behind it, and the first of all is the NUL of the empty name.
abbrev pub bytes_of : List (List ℕ) → ℕ
bytes_of [] = 1
bytes_of (x ∷ names) = length x + 1 + bytes_of names

-- where the first name begins that equals this one, if the first of all begins at `start`
abbrev pub offset_from : ℕ → List (List ℕ) → List ℕ → Option ℕ
offset_from start [] name = None
offset_from start (x ∷ names) name = if bytes_eq x name then Some start else offset_from (start + length x + 1) names name

-- the name that begins at an offset, if the first of all begins at `start`
abbrev pub name_from : ℕ → List (List ℕ) → ℕ → Option (List ℕ)
name_from start [] offset = None
name_from start (x ∷ names) offset = if start == offset then Some x else name_from (start + length x + 1) names offset

-- where a name begins: the empty one at 0, the first of the others at 1
abbrev pub offset_of : Names → List ℕ → Option ℕ
offset_of table [] = Some 0
offset_of table (b ∷ name) = offset_from 1 table.names (b ∷ name)

-- the name of a list that begins at an offset: the empty one at 0
abbrev pub name_in : List (List ℕ) → ℕ → Option (List ℕ)
name_in names offset = if offset == 0 then Some [] else name_from 1 names offset

-- the name of a table that begins at an offset
abbrev pub name_at : Names → ℕ → Option (List ℕ)
name_at table offset = name_in table.names offset

-- the bytes that the names would take with one more
abbrev pub needed_for : Names → List ℕ → ℕ
needed_for table name = bytes_of table.names + length name + 1

-- what an add answers where the name is new: it begins where the names end
abbrev pub answer_to_new : Names → List ℕ → Result ℕ NameFault
answer_to_new table name = if nat_lt table.max_bytes (needed_for table name) then Err (Full (needed_for table name)) else Ok (bytes_of table.names)

-- what an add answers where memory is there
abbrev pub answer_to_add : Names → List ℕ → Result ℕ NameFault
answer_to_add table name = unwrap_or (option_map Ok (offset_of table name)) (answer_to_new table name)

-- whether an add appends the name: it is new, and the limit is not passed
abbrev pub appends : Names → List ℕ → Bool
appends table name = is_none (offset_of table name) && is_ok (answer_to_new table name)

-- the table that an add leaves where memory is there
abbrev pub after_add : Names → List ℕ → Names
after_add table name = if appends table name then record table { names = table.names ++ name ∷ [] } else table

-- An add answers so and leaves that table; or it wants memory, where it would append.
abbrev pub Adds : Names → List ℕ → Result ℕ NameFault → Names → Type 0
Adds old name result new = AnswersOrWants (Err OutOfMemory) (IsTrue (appends old name)) (answer_to_add old name) (after_add old name) result old new

-- the limit leaves room for the name
abbrev pub HasRoomFor : Names → List ℕ → Type 0
HasRoomFor table name = needed_for table name ≤ table.max_bytes

-- What holds of each table: its names are names and take no more bytes than they may.
pub record IsNamesTable (table : Names) : Type 0 where
  pub names : All IsName table.names
  pub bytes : bytes_of table.names ≤ table.max_bytes
  pub limit : table.max_bytes ≤ MOST_NAME_BYTES
  pub version : (table.version ≡ 1) ⊎ (table.version ≡ 2)
