-- One table of records: what an add and a get answer.
use Rattle.std.specs.Prelude.{◌≡◌, ◌≤◌, ◌<◌, ◌+◌, ◌-◌, ℕ, Bool, IsTrue, ◌&&◌, nat_lt, List, [], ◌∷◌, ◌++◌, length, All, Option, None, Some, is_none, unwrap_or, Result, Ok, Err, is_ok, if◌then◌else◌}
use Rattle.std.specs.List.{slice_get}
use Rattle.std.specs.Option.{option_map}
use Rattle.std.specs.Str.{bytes_eq}
use Rattle.byteorder.specs.Endian.{little_number}
use Rattle.record_table.specs.declared.first.TheConstants.{FIRST_INDEX}
use Rattle.srv_edge.specs.declared.limit.TheConstants.{MOST_BYTES, MOST_RECORDS}
use Rattle.srv_edge.specs.Growth.{AnswersOrWants}
use Rattle.srv_edge.specs.Records.{joined}
use Rattle.record_table.specs.declared.fault.AddFault.{AddFault}
use Rattle.record_table.specs.declared.fault.AddFault.TheVariants.{Records, Bytes, OutOfMemory}

-- the records, in the order in which they came, and how many records and bytes there may be
pub record Table : Type 0 where
  pub max_records : ℕ
  pub max_bytes : ℕ
  pub records : List (List ℕ)

-- a record of 4 to 65,537 bytes, of which the first two are its length less 2
pub record IsRecord (r : List ℕ) : Type 0 where
  pub shortest : 4 ≤ length r
  pub longest : length r ≤ 65537
  pub says : little_number 2 r + 2 ≡ length r

-- the place of the first record that equals this one, byte for byte
abbrev pub place_of : List (List ℕ) → List ℕ → Option ℕ
place_of [] r = None
place_of (x ∷ records) r = if bytes_eq x r then Some 0 else option_map (λ place. place + 1) (place_of records r)

-- the record at a place has this index: those below the first are simple, and name no record
abbrev pub index_at : ℕ → ℕ
index_at place = FIRST_INDEX + place

-- the index of the first record that equals this one
abbrev pub index_of : Table → List ℕ → Option ℕ
index_of table r = option_map index_at (place_of table.records r)

-- how many bytes the records have
abbrev pub bytes_in : Table → ℕ
bytes_in table = length (joined table.records)

-- a table within its limits
pub record WithinLimits (table : Table) : Type 0 where
  pub few : length table.records ≤ table.max_records
  pub short : bytes_in table ≤ table.max_bytes

-- what a table keeps: all in it are records, it is within its limits, and these are no more than tables may have
pub record IsKept (table : Table) : Type 0 where
  pub all : All IsRecord table.records
  pub within : WithinLimits table
  pub most_records : table.max_records ≤ MOST_RECORDS
  pub most_bytes : table.max_bytes ≤ MOST_BYTES

-- an append of the record passes no limit
pub record HasRoomFor (table : Table) (r : List ℕ) : Type 0 where
  pub few : length table.records < table.max_records
  pub short : bytes_in table + length r ≤ table.max_bytes

-- the table with a record more
abbrev pub appended : Table → List ℕ → Table
appended table r = record table { records = table.records ++ r ∷ [] }

-- what an add answers where the record is new
abbrev pub answer_to_new : Table → List ℕ → Result ℕ AddFault
answer_to_new table r =
    if nat_lt (length table.records) table.max_records
    then (if nat_lt table.max_bytes (bytes_in table + length r) then Err (Bytes (bytes_in table + length r)) else Ok (index_at (length table.records)))
    else Err Records

-- what an add answers where memory is there: the index of an equal record, or that of the record as the last
abbrev pub answer_to_add : Table → List ℕ → Result ℕ AddFault
answer_to_add table r = unwrap_or (option_map Ok (index_of table r)) (answer_to_new table r)

-- whether an add appends the record: it is new, and no limit is passed
abbrev pub appends : Table → List ℕ → Bool
appends table r = is_none (index_of table r) && is_ok (answer_to_new table r)

-- the table that an add leaves where memory is there
abbrev pub after_add : Table → List ℕ → Table
after_add table r = if appends table r then appended table r else table

-- the record at an index of a list
abbrev pub record_in : List (List ℕ) → ℕ → Option (List ℕ)
record_in records index = if nat_lt index FIRST_INDEX then None else slice_get records (index - FIRST_INDEX)

-- the record at an index of a table
abbrev pub record_at : Table → ℕ → Option (List ℕ)
record_at table index = record_in table.records index

-- An add answers so and leaves that table; or it wants memory, where it would append.
abbrev pub Adds : Table → List ℕ → Result ℕ AddFault → Table → Type 0
Adds old r result new = AnswersOrWants (Err OutOfMemory) (IsTrue (appends old r)) (answer_to_add old r) (after_add old r) result old new
