-- Journal words: a caller, a kind, and what else the call's deed tells, in 64 bits.
use Rattle.std.specs.Prelude.{◌<◌, ◌^◌, ◌+◌, ◌-◌, ◌*◌, ◌/◌, ◌%◌, ◌==◌, ℕ, true, false, nat_lt, Option, Some, None, if◌then◌else◌}
use Rattle.call_journal.specs.declared.deed.TableKind.{TableKind}
use Rattle.call_journal.specs.declared.deed.TableKind.TheVariants.{Types, Items, Names}
use Rattle.call_journal.specs.declared.deed.Limit.{Limit}
use Rattle.call_journal.specs.declared.deed.Limit.TheVariants as limit
use Rattle.call_journal.specs.declared.deed.Deed.{Deed}
use Rattle.call_journal.specs.declared.deed.Deed.TheVariants.{Added, Asked, Counted, NotGiven, Full, Began, Ended, Underway}

-- the number of a table in a word
abbrev pub number_of : TableKind → ℕ
number_of Types = 0
number_of Items = 1
number_of Names = 2

-- the number of a limit in a word
abbrev pub limit_number : Limit → ℕ
limit_number limit.Records = 1
limit_number limit.Bytes = 2
limit_number limit.Names = 3

-- the kind: bits 48 to 55
abbrev pub kind_of : Deed → ℕ
kind_of (Added table at) = 1 + number_of table
kind_of (Asked table at) = 4 + number_of table
kind_of Counted = 7
kind_of (NotGiven index space table) = 8
kind_of (Full length limit table) = 9
kind_of (Began number) = 10
kind_of (Ended number acknowledged) = 11
kind_of (Underway number) = 12

-- bits 32 to 47: the table of the missing index or the limit met, with the table added to in bits 34 and 35; or whether
-- a commit was acknowledged
abbrev pub middle_of : Deed → ℕ
middle_of (Added table at) = 0
middle_of (Asked table at) = 0
middle_of Counted = 0
middle_of (NotGiven index space table) = number_of space + 4 * number_of table
middle_of (Full length limit table) = limit_number limit + 4 * number_of table
middle_of (Began number) = 0
middle_of (Ended number acknowledged) = if acknowledged then 1 else 0
middle_of (Underway number) = 0

-- bits 0 to 31: an index, an offset, a length or a commit's number
abbrev pub low_of : Deed → ℕ
low_of (Added table at) = at
low_of (Asked table at) = at
low_of Counted = 0
low_of (NotGiven index space table) = index
low_of (Full length limit table) = length
low_of (Began number) = number
low_of (Ended number acknowledged) = number
low_of (Underway number) = number

-- the word of a caller's deed: the caller stands in bits 56 to 63
unfoldable pub word_of : ℕ → Deed → ℕ
word_of caller deed = 2 ^ 56 * caller + 2 ^ 48 * kind_of deed + 2 ^ 32 * middle_of deed + low_of deed

-- a deed whose number has 32 bits
abbrev pub IsDeed : Deed → Type 0
IsDeed deed = low_of deed < 2 ^ 32

-- the table of a number
abbrev pub table_of : ℕ → Option TableKind
table_of n = if n == 0 then Some Types else if n == 1 then Some Items else if n == 2 then Some Names else None

abbrev pub limit_of : ℕ → Option Limit
limit_of n = if n == 1 then Some limit.Records else if n == 2 then Some limit.Bytes else if n == 3 then Some limit.Names else None

-- a deed of a table, if the number is one
abbrev pub with_table : Option TableKind → (TableKind → Deed) → Option Deed
with_table None deed = None
with_table (Some table) deed = Some (deed table)

-- an add refused as not given, by the numbers of its two tables
abbrev pub not_given_deed : ℕ → Option TableKind → Option TableKind → Option Deed
not_given_deed index None table = None
not_given_deed index (Some space) table = with_table table (NotGiven index space)

-- an add refused as full, by the numbers of the limit and of the table
abbrev pub full_deed : ℕ → Option Limit → Option TableKind → Option Deed
full_deed length None table = None
full_deed length (Some limit) table = with_table table (Full length limit)

-- a commit's end: 0 where it faulted, 1 where it was acknowledged
abbrev pub end_of : ℕ → ℕ → Option Deed
end_of number n = if n == 0 then Some (Ended number false) else if n == 1 then Some (Ended number true) else None

-- the deed of a kind that has nothing in bits 32 to 47
abbrev pub plain_deed : ℕ → ℕ → Option Deed
plain_deed kind low =
    if kind == 7 then (if low == 0 then Some Counted else None)
    else if kind == 10 then Some (Began low)
    else if kind == 12 then Some (Underway low)
    else if kind == 0 then None
    else if nat_lt kind 4 then with_table (table_of (kind - 1)) (λ table. Added table low)
    else with_table (table_of (kind - 4)) (λ table. Asked table low)

-- the deed of a kind, of bits 32 to 47 and of bits 0 to 31
abbrev pub deed_by : ℕ → ℕ → ℕ → Option Deed
deed_by kind middle low =
    if kind == 8 then not_given_deed low (table_of (middle % 4)) (table_of (middle / 4))
    else if kind == 9 then full_deed low (limit_of (middle % 4)) (table_of (middle / 4))
    else if kind == 11 then end_of low middle
    else if middle == 0 then plain_deed kind low
    else None

-- the deed that a word tells, if it is a word of one
unfoldable pub deed_of : ℕ → Option Deed
deed_of word = deed_by (word / 2 ^ 48 % 256) (word / 2 ^ 32 % 65536) (word % 2 ^ 32)
