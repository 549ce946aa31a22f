-- The one-thread table: what an add answers, and the tables that it leaves.
use Rattle.std.specs.Prelude.{IsTrue, ℕ, Bool, ◌&&◌, List, [], length, Option, Some, None, is_none, Result, Ok, Err, is_ok, if◌then◌else◌}
use Rattle.leaf_grammar.specs.declared.grammar.Space.{Space}
use Rattle.leaf_grammar.specs.declared.grammar.Space.TheVariants.{Types, Items}
use Rattle.leaf_grammar.specs.declared.grammar.Leaf.{Leaf}
use Rattle.leaf_grammar.specs.declared.grammar.Malformed as malformed
use Rattle.leaf_grammar.specs.Leaf.{leaf_of}
use Rattle.index_fields.specs.Fields.{missing}
use Rattle.record_table.specs.declared.fault.AddFault.{AddFault}
use Rattle.record_table.specs.declared.fault.AddFault.TheVariants as add_fault
use Rattle.record_table.specs.Table as records
use Rattle.names_table.specs.declared.fault.NameFault.{NameFault}
use Rattle.names_table.specs.declared.fault.NameFault.TheVariants as name_fault
use Rattle.names_table.specs.Names as strings
use Rattle.srv_edge.specs.declared.limit.TheConstants as limit
use Rattle.srv_edge.specs.declared.space.TheConstants as space
use Rattle.srv_edge.specs.Growth.{AnswersOrWants}
use Rattle.srv_edge.specs.declared.failed.Limits.{Limits}
use Rattle.table_model.specs.Bounds.{bounded_table, bounds_of}
use Rattle.srv_edge.specs.declared.failed.Refusal.{Refusal}
use Rattle.srv_edge.specs.declared.failed.Refusal.TheVariants.{Malformed, NotGiven, Full, OutOfMemory}

-- the types, the items and the names of a session
pub record Tables : Type 0 where
  pub types : records.Table
  pub items : records.Table
  pub names : strings.Names

-- a table of these records within limits
abbrev pub table_within : Limits → List (List ℕ) → records.Table
table_within limits list = bounded_table (bounds_of limits) list

-- a table of these names within limits, whose hashes have the first version
abbrev pub names_within : Limits → List (List ℕ) → strings.Names
names_within limits list = record { max_bytes = limits.name_bytes; version = 1; names = list }

abbrev pub tables_within : Limits → List (List ℕ) → List (List ℕ) → List (List ℕ) → Tables
tables_within limits types items names = record { types = table_within limits types; items = table_within limits items; names = names_within limits names }

-- tables of nothing yet
abbrev pub empty_tables : Limits → Tables
empty_tables limits = tables_within limits [] [] []

-- how many types there are, and how many items
abbrev pub type_count : Tables → ℕ
type_count x = length x.types.records

abbrev pub item_count : Tables → ℕ
item_count x = length x.items.records

-- the number of a space in a refusal
abbrev pub space_number : Space → ℕ
space_number Types = space.TYPES
space_number Items = space.ITEMS

-- what an add of a record answers after the judgement of its bytes and its fields
abbrev pub answer_of_add : Result ℕ AddFault → ℕ → Result ℕ Refusal
answer_of_add (Ok index) most = Ok index
answer_of_add (Err add_fault.Records) most = Err (Full limit.RECORDS most)
answer_of_add (Err (add_fault.Bytes needed)) most = Err (Full limit.BYTES needed)
answer_of_add (Err add_fault.OutOfMemory) most = Err OutOfMemory

-- what an add answers to a leaf: the first field that names nothing, or what the table says
abbrev pub answer_to_leaf : Option (Space × ℕ) → Result ℕ Refusal → Result ℕ Refusal
answer_to_leaf (Some field) answer = Err (NotGiven (space_number field.0) field.1)
answer_to_leaf None answer = answer

-- what an add answers to bytes: where they are first wrong, or what a leaf is answered
abbrev pub answer_to_bytes : Result Leaf malformed.Malformed → Result ℕ Refusal → Result ℕ Refusal
answer_to_bytes (Err wrong) answer = Err (Malformed wrong.at wrong.what)
answer_to_bytes (Ok leaf) answer = answer

-- the index of a record in the table of its space, where there are so many types and items, or why it has none
abbrev pub answer_to_record : Space → records.Table → ℕ → ℕ → List ℕ → Result ℕ Refusal
answer_to_record space table types items r =
    answer_to_bytes (leaf_of space r) (answer_to_leaf (missing space r types items) (answer_of_add (records.answer_to_add table r) table.max_records))

-- whether a record comes to its table: it is a leaf whose fields name records
abbrev pub comes_to_table : Space → ℕ → ℕ → List ℕ → Bool
comes_to_table space types items r = is_ok (leaf_of space r) && is_none (missing space r types items)

-- the table that an add of a record leaves
abbrev pub table_after : Space → records.Table → ℕ → ℕ → List ℕ → records.Table
table_after space table types items r = if comes_to_table space types items r then records.after_add table r else table

-- whether an add of a record makes its table grow
abbrev pub record_grows : Space → records.Table → ℕ → ℕ → List ℕ → Bool
record_grows space table types items r = comes_to_table space types items r && records.appends table r

-- the offset of a name, or why it has none
abbrev pub answer_of_name : Result ℕ NameFault → Result ℕ Refusal
answer_of_name (Ok offset) = Ok offset
answer_of_name (Err (name_fault.Full needed)) = Err (Full limit.NAMES needed)
answer_of_name (Err name_fault.OutOfMemory) = Err OutOfMemory

abbrev pub answer_to_name : strings.Names → List ℕ → Result ℕ Refusal
answer_to_name names name = answer_of_name (strings.answer_to_add names name)

-- An add of a record, where there are so many types and items, answers so and leaves that table; or it wants memory, where
-- the table would grow.
abbrev pub AddsRecord : Space → ℕ → ℕ → records.Table → List ℕ → Result ℕ Refusal → records.Table → Type 0
AddsRecord space types items old r result new =
    AnswersOrWants (Err OutOfMemory) (IsTrue (record_grows space old types items r)) (answer_to_record space old types items r) (table_after space old types items r) result old new

-- the same of a name
abbrev pub AddsName : strings.Names → List ℕ → Result ℕ Refusal → strings.Names → Type 0
AddsName old name result new =
    AnswersOrWants (Err OutOfMemory) (IsTrue (strings.appends old name)) (answer_to_name old name) (strings.after_add old name) result old new
