-- What a plain table needs of a call, and what it keeps.
use Rattle.std.specs.Prelude.{◌≡◌, ◌≤◌, ◌⊎◌, ℕ, List, Option, Result, Err, IsSome, IsTrue}
use Rattle.srv_edge.specs.declared.failed.Limits.{Limits}
use Rattle.srv_edge.specs.declared.failed.Refusal.{Refusal}
use Rattle.srv_edge.specs.declared.failed.Refusal.TheVariants.{OutOfMemory}
use Rattle.srv_edge.specs.Growth.{AnswersOrWants}
use Rattle.record_table.specs.Table as records
use Rattle.names_table.specs.Names as strings
use Rattle.table_model.specs.declared.call.Call.{Call}
use Rattle.table_model.specs.declared.call.Call.TheVariants.{AddType, AddItem, AddName, GetType, GetItem, GetName, Counts}
use Rattle.table_model.specs.declared.call.Outcome.{Outcome}
use Rattle.leaf_grammar.specs.declared.grammar.Space.{Space}
use Rattle.leaf_grammar.specs.declared.grammar.Space.TheVariants.{Types, Items}
use Rattle.table_model.specs.Calls.{answer, bytes_answer, index_answer, tables_after}
use Rattle.record_table.specs.Table.{WithinLimits}
use Rattle.table_model.specs.Tables.{Tables, answer_of_add, answer_to_name, answer_to_record, item_count, names_within, record_grows, table_after, table_within, type_count}

-- the names that a call brings are names
abbrev pub BringsName : Call → Type 0
BringsName (AddType r) = Unit {0}
BringsName (AddItem r) = Unit {0}
BringsName (AddName name) = strings.IsName name
BringsName (GetType index) = Unit {0}
BringsName (GetItem index) = Unit {0}
BringsName (GetName offset) = Unit {0}
BringsName Counts = Unit {0}

-- What may want memory: an add that makes a table grow, and a get that copies what it found.
abbrev pub MayWant : Tables → Call → Type 0
MayWant x (AddType r) = IsTrue (record_grows Types x.types (type_count x) (item_count x) r)
MayWant x (AddItem r) = IsTrue (record_grows Items x.items (type_count x) (item_count x) r)
MayWant x (AddName name) = IsTrue (strings.appends x.names name)
MayWant x (GetType index) = IsSome (records.record_at x.types index)
MayWant x (GetItem index) = IsSome (records.record_at x.items index)
MayWant x (GetName offset) = IsSome (strings.name_at x.names offset)
MayWant x Counts = ⊥

-- the lists keep the limits
pub record AreKept (limits : Limits) (types items names : List (List ℕ)) : Type 0 where
  pub kept_types : WithinLimits (table_within limits types)
  pub kept_items : WithinLimits (table_within limits items)
  pub kept_names : strings.bytes_of names ≤ limits.name_bytes

-- a call is answered so and leaves these tables, or wants memory, where it may
abbrev pub AnswersCall : Tables → Call → Result Outcome Refusal → Tables → Type 0
AnswersCall old call result new = AnswersOrWants (Err OutOfMemory) (MayWant old call) (answer old call) (tables_after old call) result old new

-- an add of a record to a list within limits
abbrev pub AddsToList : Limits → Space → ℕ → ℕ → List (List ℕ) → List ℕ → Result Outcome Refusal → List (List ℕ) → Type 0
AddsToList limits space types items old r result new =
    AnswersOrWants (Err OutOfMemory) (IsTrue (record_grows space (table_within limits old) types items r))
    (index_answer (answer_to_record space (table_within limits old) types items r)) (table_after space (table_within limits old) types items r)
    result (table_within limits old) (table_within limits new)

-- the same of a leaf whose fields were judged
abbrev pub AddsLeaf : Limits → List (List ℕ) → List ℕ → Result ℕ Refusal → List (List ℕ) → Type 0
AddsLeaf limits old r result new =
    AnswersOrWants (Err OutOfMemory) (IsTrue (records.appends (table_within limits old) r))
    (answer_of_add (records.answer_to_add (table_within limits old) r) limits.records) (records.after_add (table_within limits old) r)
    result (table_within limits old) (table_within limits new)

-- an add of a name
abbrev pub AddsToNames : Limits → List (List ℕ) → List ℕ → Result Outcome Refusal → List (List ℕ) → Type 0
AddsToNames limits old name result new =
    AnswersOrWants (Err OutOfMemory) (IsTrue (strings.appends (names_within limits old) name))
    (index_answer (answer_to_name (names_within limits old) name)) (strings.after_add (names_within limits old) name)
    result (names_within limits old) (names_within limits new)

-- a copy of what was found, or the refusal; where something was found it may want memory
abbrev pub Copies : Option (List ℕ) → Refusal → Result Outcome Refusal → Type 0
Copies found missing result = (result ≡ bytes_answer found missing) ⊎ ((result ≡ Err OutOfMemory) × IsSome found)
