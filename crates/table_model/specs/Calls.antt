-- The calls on the one-thread table: their answers, and the tables that they leave.
use Rattle.std.specs.Prelude.{◌^◌, ◌==◌, ◌&&◌, not, nat_lt, ℕ, Bool, true, false, List, [], ◌∷◌, length, Option, Some, None, Result, Ok, Err}
use Rattle.leaf_grammar.specs.declared.grammar.Space.TheVariants.{Types, Items}
use Rattle.record_table.specs.Table as records
use Rattle.names_table.specs.Names as strings
use Rattle.srv_edge.specs.declared.limit.TheConstants.{NAME_BYTES}
use Rattle.srv_edge.specs.declared.space.TheConstants as space
use Rattle.srv_edge.specs.declared.failed.Refusal.{Refusal}
use Rattle.srv_edge.specs.declared.failed.Refusal.TheVariants.{NotGiven}
use Rattle.table_model.specs.declared.call.Call.{Call}
use Rattle.table_model.specs.declared.call.Call.TheVariants.{AddType, AddItem, AddName, GetType, GetItem, GetName, Counts}
use Rattle.table_model.specs.declared.call.Outcome.{Outcome}
use Rattle.table_model.specs.declared.call.Outcome.TheVariants as outcome
use Rattle.table_model.specs.Tables.{Tables, answer_to_record, answer_to_name, item_count, record_grows, table_after, type_count}

-- an index or an offset as an answer
abbrev pub index_answer : Result ℕ Refusal → Result Outcome Refusal
index_answer (Ok n) = Ok (outcome.Index n)
index_answer (Err refusal) = Err refusal

-- a record or a name as an answer, or the refusal where there is none
abbrev pub bytes_answer : Option (List ℕ) → Refusal → Result Outcome Refusal
bytes_answer (Some bytes) refusal = Ok (outcome.Bytes bytes)
bytes_answer None refusal = Err refusal

-- The answer to a call, where memory is there.
abbrev pub answer : Tables → Call → Result Outcome Refusal
answer x (AddType r) = index_answer (answer_to_record Types x.types (type_count x) (item_count x) r)
answer x (AddItem r) = index_answer (answer_to_record Items x.items (type_count x) (item_count x) r)
answer x (AddName name) = index_answer (answer_to_name x.names name)
answer x (GetType index) = bytes_answer (records.record_at x.types index) (NotGiven space.TYPES index)
answer x (GetItem index) = bytes_answer (records.record_at x.items index) (NotGiven space.ITEMS index)
answer x (GetName offset) = bytes_answer (strings.name_at x.names offset) (NotGiven space.NAMES offset)
answer x Counts = Ok (outcome.Counts (type_count x) (item_count x) (length x.names.names))

-- The tables that a call leaves, where memory is there.
abbrev pub tables_after : Tables → Call → Tables
tables_after x (AddType r) = record x { types = table_after Types x.types (type_count x) (item_count x) r }
tables_after x (AddItem r) = record x { items = table_after Items x.items (type_count x) (item_count x) r }
tables_after x (AddName name) = record x { names = strings.after_add x.names name }
tables_after x (GetType index) = x
tables_after x (GetItem index) = x
tables_after x (GetName offset) = x
tables_after x Counts = x

-- whether a call makes a table grow, where memory is there
abbrev pub grows : Tables → Call → Bool
grows x (AddType r) = record_grows Types x.types (type_count x) (item_count x) r
grows x (AddItem r) = record_grows Items x.items (type_count x) (item_count x) r
grows x (AddName name) = strings.appends x.names name
grows x (GetType index) = false
grows x (GetItem index) = false
grows x (GetName offset) = false
grows x Counts = false

-- whether all are bytes
abbrev pub are_bytes : List ℕ → Bool
are_bytes [] = true
are_bytes (b ∷ bytes) = nat_lt b 256 && are_bytes bytes

-- whether no byte is NUL
abbrev pub has_no_nul : List ℕ → Bool
has_no_nul [] = true
has_no_nul (b ∷ bytes) = not (b == 0) && has_no_nul bytes

-- Whether a client can make the call: numbers have 32 bits, bytes 8, and a name has at most 65,535 bytes
-- and no NUL.
abbrev pub is_call : Call → Bool
is_call (AddType r) = are_bytes r
is_call (AddItem r) = are_bytes r
is_call (AddName name) = are_bytes name && has_no_nul name && not (nat_lt NAME_BYTES (length name))
is_call (GetType index) = nat_lt index (2 ^ 32)
is_call (GetItem index) = nat_lt index (2 ^ 32)
is_call (GetName offset) = nat_lt offset (2 ^ 32)
is_call Counts = true
