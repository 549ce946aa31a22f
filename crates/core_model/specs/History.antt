-- Histories: the entries that calls leave, the tables behind them, and which histories are legal.
use Rattle.std.specs.Prelude.{◌≡◌, ◌≢◌, ◌≤◌, ◌<◌, ◌+◌, ◌^◌, ◌==◌, ℕ, true, List, [], ◌∷◌, ◌++◌, length, get_or, Option, Some, None, Ok, if◌then◌else◌}
use Rattle.leaf_grammar.specs.declared.grammar.Space.TheVariants as leaf
use Rattle.record_table.specs.Table as records
use Rattle.names_table.specs.Names as strings
use Rattle.turnstile.specs.declared.history.Entry.{Entry}
use Rattle.turnstile.specs.declared.history.Basis.{Basis}
use Rattle.turnstile.specs.Histories.{caller}
use Rattle.call_journal.specs.declared.deed.TableKind.{TableKind}
use Rattle.call_journal.specs.declared.deed.TableKind.TheVariants.{Types, Items, Names}
use Rattle.call_journal.specs.declared.deed.Limit.{Limit}
use Rattle.call_journal.specs.declared.deed.Limit.TheVariants as limit
use Rattle.call_journal.specs.declared.deed.Deed.{Deed}
use Rattle.call_journal.specs.declared.deed.Deed.TheVariants.{Added, Asked, Counted, NotGiven, Full, Began, Ended, Underway}
use Rattle.call_journal.specs.Words.{deed_of}
pub use Rattle.core_model.specs.declared.commit.OpenCommit.{OpenCommit}
use Rattle.table_model.specs.Calls.{are_bytes}
use Rattle.record_table.specs.Table.{WithinLimits}
use Rattle.table_model.specs.Tables.{Tables, answer_to_record, answer_to_name, item_count, type_count}

-- The numbers of a basis: the number of the commit that was opened, the five limits and the version of
-- the names. What else an opened file has stands behind them.
abbrev pub number_at : ℕ → Basis → ℕ
number_at place b = get_or b.numbers place 0

abbrev pub age_of : Basis → ℕ
age_of = number_at 0

abbrev pub most_records : Basis → ℕ
most_records = number_at 1

abbrev pub most_bytes : Basis → ℕ
most_bytes = number_at 2

abbrev pub most_name_bytes : Basis → ℕ
most_name_bytes = number_at 3

abbrev pub most_calls : Basis → ℕ
most_calls = number_at 4

abbrev pub most_blocks : Basis → ℕ
most_blocks = number_at 5

abbrev pub names_version : Basis → ℕ
names_version = number_at 6

-- a table of these records within the limits of a basis
abbrev pub limited_table : Basis → List (List ℕ) → records.Table
limited_table b list = record { max_records = most_records b; max_bytes = most_bytes b; records = list }

-- the tables as opened
abbrev pub opened_tables : Basis → Tables
opened_tables b = record {
  types = limited_table b b.types;
  items = limited_table b b.items;
  names = record { max_bytes = most_name_bytes b; version = names_version b; names = b.names };
}

-- How things stand at a place of a history: the tables, the number that the last commit took, and the
-- commit that has begun and not ended.
pub record Standing : Type 0 where
  pub tables : Tables
  pub number : ℕ
  pub under_way : Option OpenCommit

abbrev pub opening : Basis → Standing
opening b = record { tables = opened_tables b; number = age_of b; under_way = None }

-- The tables with what an add brought, if its answer is the next index or offset.
abbrev pub with_added : Tables → TableKind → ℕ → List ℕ → Tables
with_added x Types at bytes = if at == records.index_at (type_count x) then record x { types = records.appended x.types bytes } else x
with_added x Items at bytes = if at == records.index_at (item_count x) then record x { items = records.appended x.items bytes } else x
with_added x Names at bytes = if at == strings.bytes_of x.names.names then record x { names = record (x.names) { names = x.names.names ++ bytes ∷ [] } } else x

-- how things stand after a deed of a caller, which brought these bytes
abbrev pub after_deed : Standing → ℕ → Option Deed → List ℕ → Standing
after_deed s c None bytes = s
after_deed s c (Some (Added table at)) bytes = record s { tables = with_added s.tables table at bytes }
after_deed s c (Some (Asked table at)) bytes = s
after_deed s c (Some Counted) bytes = s
after_deed s c (Some (NotGiven index space table)) bytes = s
after_deed s c (Some (Full length limit table)) bytes = s
after_deed s c (Some (Began number)) bytes = record s { number = number; under_way = Some (record { caller = c; number = number }) }
after_deed s c (Some (Ended number acknowledged)) bytes = record s { under_way = None }
after_deed s c (Some (Underway number)) bytes = s

abbrev pub after_entry : Standing → Entry → Standing
after_entry s e = after_deed s (caller e) (deed_of e.word) e.brought

abbrev pub after_entries : Standing → List Entry → Standing
after_entries s [] = s
after_entries s (e ∷ entries) = after_entries (after_entry s e) entries

-- how things stand behind a history
abbrev pub standing : Basis → List Entry → Standing
standing b entries = after_entries (opening b) entries

-- the tables behind a history
abbrev pub after : Basis → List Entry → Tables
after b entries = (standing b entries).tables

-- An add is answered as the one-thread table says of what it brought.
abbrev pub IsAnswered : Tables → TableKind → ℕ → List ℕ → Type 0
IsAnswered x Types at r = answer_to_record leaf.Types x.types (type_count x) (item_count x) r ≡ Ok at
IsAnswered x Items at r = answer_to_record leaf.Items x.items (type_count x) (item_count x) r ≡ Ok at
IsAnswered x Names at name = strings.IsName name × (answer_to_name x.names name ≡ Ok at)

-- an index that names no record yet
abbrev pub NamesNothing : Tables → TableKind → ℕ → Type 0
NamesNothing x Types index = records.index_at (type_count x) ≤ index
NamesNothing x Items index = records.index_at (item_count x) ≤ index
NamesNothing x Names index = ⊥

-- A limit that a record more, of this size, would pass: records are counted before bytes.
abbrev pub PassesLimit : records.Table → Limit → ℕ → Type 0
PassesLimit table limit.Records size = table.max_records ≤ length table.records
PassesLimit table limit.Bytes size = (length table.records < table.max_records) × (table.max_bytes < records.bytes_in table + size)
PassesLimit table limit.Names size = ⊥

-- a limit that a name more, of this size, would pass
abbrev pub PassesNamesLimit : strings.Names → Limit → ℕ → Type 0
PassesNamesLimit names limit.Records size = ⊥
PassesNamesLimit names limit.Bytes size = ⊥
PassesNamesLimit names limit.Names size = names.max_bytes < strings.bytes_of names.names + size + 1

-- an add of this size that is refused as full
abbrev pub IsRefusedFull : Tables → TableKind → Limit → ℕ → Type 0
IsRefusedFull x Types limit size = PassesLimit x.types limit size
IsRefusedFull x Items limit size = PassesLimit x.items limit size
IsRefusedFull x Names limit size = PassesNamesLimit x.names limit size

-- A deed of a caller that fits where things stand so. Only an add that was answered brings bytes.
abbrev pub DeedFits : Standing → ℕ → Option Deed → List ℕ → Type 0
DeedFits s c None bytes = ⊥
DeedFits s c (Some (Added table at)) bytes = IsAnswered s.tables table at bytes
DeedFits s c (Some (Asked table at)) bytes = bytes ≡ []
DeedFits s c (Some Counted) bytes = bytes ≡ []
DeedFits s c (Some (NotGiven index space table)) bytes = (bytes ≡ []) × NamesNothing s.tables space index × (table ≢ Names)
DeedFits s c (Some (Full size limit table)) bytes = (bytes ≡ []) × IsRefusedFull s.tables table limit size
DeedFits s c (Some (Began number)) bytes = (bytes ≡ []) × (s.under_way ≡ None) × (number ≡ s.number + 1)
DeedFits s c (Some (Ended number acknowledged)) bytes = (bytes ≡ []) × (s.under_way ≡ Some (record { caller = c; number = number }))
DeedFits s c (Some (Underway number)) bytes = (bytes ≡ []) × ((d : ℕ) × (s.under_way ≡ Some (record { caller = d; number = number })))

-- The entry is a caller's word of a deed that fits where things stand so, and what was brought are bytes.
pub record Fits (s : Standing) (e : Entry) : Type 0 where
  pub word : e.word < 2 ^ 64
  pub bytes : are_bytes e.brought ≡ true
  pub deed : DeedFits s (caller e) (deed_of e.word) e.brought

-- Each entry fits where it stands.
pub record IsLegal (b : Basis) (entries : List Entry) : Type 0 where
  pub fits : (before : List Entry) (e : Entry) (rest : List Entry) → entries ≡ before ++ e ∷ rest → Fits (standing b before) e

-- Lists that a file may hold: within limits that are at most the program's, under a number of 32 bits.
pub record IsStart (b : Basis) : Type 0 where
  pub age : age_of b < 2 ^ 32
  pub few_records : most_records b ≤ 2 ^ 23
  pub few_bytes : most_bytes b ≤ 2 ^ 30
  pub few_name_bytes : most_name_bytes b ≤ 2 ^ 28
  pub types : WithinLimits (limited_table b b.types)
  pub items : WithinLimits (limited_table b b.items)
  pub names : strings.bytes_of b.names ≤ most_name_bytes b
