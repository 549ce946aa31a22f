-- The entries that calls leave.
use Rattle.std.specs.Prelude.{◌==◌, ℕ, zero, suc, List, [], length, Option, Some, None, Result, Ok, Err, if◌then◌else◌}
use Rattle.srv_edge.specs.declared.failed.Refusal.{Refusal}
use Rattle.srv_edge.specs.declared.failed.Refusal.TheVariants as refusal
use Rattle.turnstile.specs.declared.history.Entry.{Entry}
use Rattle.call_journal.specs.declared.deed.TableKind.{TableKind}
use Rattle.call_journal.specs.declared.deed.TableKind.TheVariants.{Types, Items, Names}
use Rattle.call_journal.specs.declared.deed.Limit.{Limit}
use Rattle.call_journal.specs.declared.deed.Limit.TheVariants as limit
use Rattle.call_journal.specs.declared.deed.Deed.{Deed}
use Rattle.call_journal.specs.declared.deed.Deed.TheVariants.{Added, Asked, Counted, NotGiven, Full}
use Rattle.call_journal.specs.Words.{word_of}
use Rattle.table_model.specs.declared.call.Call.{Call}
use Rattle.table_model.specs.declared.call.Call.TheVariants.{AddType, AddItem, AddName, GetType, GetItem, GetName, Counts}
use Rattle.table_model.specs.declared.call.Outcome.{Outcome}
use Rattle.table_model.specs.declared.call.Outcome.TheVariants as outcome

-- the entry of a caller's deed, with the bytes that it brought
abbrev pub entry_of : ℕ → Deed → List ℕ → Entry
entry_of c deed bytes = record { word = word_of c deed; brought = bytes }

-- the table of a space's number, as a refusal names it
abbrev pub table_of_space : ℕ → TableKind
table_of_space zero = Types
table_of_space (suc n) = Items

-- the limit that a refusal names
abbrev pub limit_of_number : ℕ → Limit
limit_of_number n = if n == 1 then limit.Records else if n == 2 then limit.Bytes else limit.Names

-- The entry of an add of these bytes to a table: what was answered, or why it was refused. What the bytes
-- alone refuse, and what wants memory, has none.
abbrev pub entry_of_add : ℕ → TableKind → List ℕ → Result Outcome Refusal → Option Entry
entry_of_add c table bytes (Ok (outcome.Index at)) = Some (entry_of c (Added table at) bytes)
entry_of_add c table bytes (Ok (outcome.Bytes other)) = None
entry_of_add c table bytes (Ok (outcome.Counts types items names)) = None
entry_of_add c table bytes (Err (refusal.Malformed at what)) = None
entry_of_add c table bytes (Err (refusal.NotGiven space index)) = Some (entry_of c (NotGiven index (table_of_space space) table) [])
entry_of_add c table bytes (Err (refusal.Full which needed)) = Some (entry_of c (Full (length bytes) (limit_of_number which) table) [])
entry_of_add c table bytes (Err (refusal.Underway number)) = None
entry_of_add c table bytes (Err (refusal.DiskFault number)) = None
entry_of_add c table bytes (Err refusal.OutOfMemory) = None

-- The entry of a get or counts, which are kept whatever they are answered. One that wants memory has none.
abbrev pub entry_of_read : ℕ → Deed → Result Outcome Refusal → Option Entry
entry_of_read c deed (Err refusal.OutOfMemory) = None
entry_of_read c deed reply = Some (entry_of c deed [])

-- The entry of a call that was answered so.
abbrev pub entry_of_call : ℕ → Call → Result Outcome Refusal → Option Entry
entry_of_call c (AddType r) reply = entry_of_add c Types r reply
entry_of_call c (AddItem r) reply = entry_of_add c Items r reply
entry_of_call c (AddName name) reply = entry_of_add c Names name reply
entry_of_call c (GetType index) reply = entry_of_read c (Asked Types index) reply
entry_of_call c (GetItem index) reply = entry_of_read c (Asked Items index) reply
entry_of_call c (GetName offset) reply = entry_of_read c (Asked Names offset) reply
entry_of_call c Counts reply = entry_of_read c Counted reply
