-- The one-thread table behind a desk: the reply to each request but a commit, and the tables that it leaves.
use Rattle.std.specs.Prelude.{◌≡◌, ◌+◌, ℕ, IsTrue, List, [], ◌∷◌, ◌++◌, Option, Result, Ok, Err}
use Rattle.leaf_grammar.specs.declared.grammar.Space.{Space}
use Rattle.leaf_grammar.specs.declared.grammar.Space.TheVariants.{Types, Items}
use Rattle.srv_edge.specs.declared.failed.Refusal.{Refusal}
use Rattle.srv_edge.specs.declared.failed.Refusal.TheVariants.{OutOfMemory}
use Rattle.srv_edge.specs.Frames.{Message, half_bytes, spoken, word_bytes}
use Rattle.request_frames.specs.Lists.{AreRecords, part_bytes}
use Rattle.request_frames.specs.Refusals.{refusal_message}
use Rattle.request_frames.specs.Requests.{Asked, hello, add_type, add_item, add_name, get_type, get_item, get_name, commit, counts, bye, add_types, add_items, request_message}
use Rattle.request_frames.specs.Talk.{AnswersWith}
use Rattle.srv_edge.specs.declared.kind.TheConstants.{ADD_ITEMS, ADD_TYPES, REPLY}
use Rattle.srv_edge.specs.Growth.{AnswersOrWants}
use Rattle.table_model.specs.declared.call.Call.{Call}
use Rattle.table_model.specs.declared.call.Call.TheVariants as call
use Rattle.table_model.specs.declared.call.Outcome.{Outcome}
use Rattle.table_model.specs.declared.call.Outcome.TheVariants.{Index, Bytes, Counts}
use Rattle.table_model.specs.Calls.{answer, bytes_answer, grows, index_answer, tables_after}
pub use Rattle.table_model.specs.Tables.{Tables, answer_of_add, answer_of_name, answer_to_bytes, answer_to_leaf, answer_to_name, answer_to_record, comes_to_table, item_count, record_grows, space_number, table_after, type_count}

-- the message of a call's answer, of this kind where it is no refusal
abbrev pub answer_message : ℕ → Result Outcome Refusal → Message
answer_message kind (Ok (Index n)) = record { kind = kind; body = word_bytes n }
answer_message kind (Ok (Bytes bytes)) = record { kind = kind; body = bytes }
answer_message kind (Ok (Counts types items names)) = record { kind = kind; body = word_bytes types ++ word_bytes items ++ word_bytes names }
answer_message kind (Err refusal) = refusal_message refusal

-- a reply with an index or an offset
abbrev pub index_reply : ℕ → Result ℕ Refusal → Message
index_reply kind r = answer_message kind (index_answer r)

-- a reply with a record or a name
abbrev pub bytes_reply : ℕ → Option (List ℕ) → Refusal → Message
bytes_reply kind found refusal = answer_message kind (bytes_answer found refusal)

-- the part of a list's reply for one of its records: its index, or its refusal
abbrev pub part_of : Result ℕ Refusal → List ℕ
part_of (Ok index) = part_bytes (record { code = 0; a = index; b = 0 })
part_of (Err refusal) = (refusal_message refusal).body

-- the add of a record to the table of its space
abbrev pub call_to_add : Space → List ℕ → Call
call_to_add Types r = call.AddType r
call_to_add Items r = call.AddItem r

-- the kind of a request to add a list of records of a space
abbrev pub kind_of_list : Space → ℕ
kind_of_list Types = ADD_TYPES
kind_of_list Items = ADD_ITEMS

-- the calls on tables that a request makes: none, one, or an add of each record of a list; a commit is put to their file
pub data Calls : Type 0 where
  none : Calls
  one : Call → Calls
  each : Space → List ℕ → Calls
  of_file : Calls

abbrev pub calls_of : Asked → Calls
calls_of (hello version) = none
calls_of (add_type r) = one (call_to_add Types r)
calls_of (add_item r) = one (call_to_add Items r)
calls_of (add_name name) = one (call.AddName name)
calls_of (get_type index) = one (call.GetType index)
calls_of (get_item index) = one (call.GetItem index)
calls_of (get_name offset) = one (call.GetName offset)
calls_of commit = of_file
calls_of counts = one call.Counts
calls_of bye = none
calls_of (add_types list) = each Types list
calls_of (add_items list) = each Items list

-- the body of the reply to a request that makes no call: the version that is spoken from now on, or nothing
abbrev pub greeting : Asked → List ℕ
greeting (hello version) = half_bytes (spoken version)
greeting _ = []

-- the kind of a reply that is no refusal
abbrev pub reply_kind : Asked → ℕ
reply_kind a = (request_message a).kind + REPLY

-- A call is answered as the one-thread table says, with a reply of this kind. One that makes a table grow may want memory
-- instead, and then changes nothing.
abbrev pub AnswersCall : ℕ → Tables → Call → Message → Tables → Type 0
AnswersCall kind old c reply new =
    AnswersOrWants (refusal_message OutOfMemory) (IsTrue (grows old c)) (answer_message kind (answer old c)) (tables_after old c) reply old new

-- A record is added with this answer, as the one-thread table says, or it wants memory in the same way.
abbrev pub Adds : Space → Tables → List ℕ → Result ℕ Refusal → Tables → Type 0
Adds space old r answered new =
    AnswersOrWants (Err OutOfMemory) (IsTrue (grows old (call_to_add space r))) (answer old (call_to_add space r)) (tables_after old (call_to_add space r)) (index_answer answered) old new

-- Records are added one after another, each to the tables that those before it left. Each has its part of the reply, and one
-- that is refused does not stop the next.
abbrev pub AddsEach : Space → Tables → List (List ℕ) → List ℕ → Tables → Type 0
AddsEach space old [] parts new = (parts ≡ []) × (new ≡ old)
AddsEach space old (r ∷ records) parts new =
    (answered : Result ℕ Refusal) × (rest : List ℕ) × (mid : Tables) × (parts ≡ part_of answered ++ rest) × Adds space old r answered mid × AddsEach space mid records rest new

-- the records of a list are added, and the parts of the reply are these
abbrev pub AddsList : Space → Tables → List ℕ → List ℕ → Tables → Type 0
AddsList space old list parts new = (records : List (List ℕ)) × AreRecords list records × AddsEach space old records parts new

-- The calls that a request makes are answered by a reply of this kind, or where there is none by this body. Tables alone
-- answer no commit.
abbrev pub AnswersCalls : Calls → ℕ → List ℕ → Tables → Message → Tables → Type 0
AnswersCalls none kind body old reply new = (reply ≡ record { kind = kind; body = body }) × (new ≡ old)
AnswersCalls (one c) kind body old reply new = AnswersCall kind old c reply new
AnswersCalls (each space list) kind body old reply new = (parts : List ℕ) × (reply ≡ record { kind = kind; body = parts }) × AddsList space old list parts new
AnswersCalls of_file kind body old reply new = ⊥

-- a request is answered by tables
abbrev pub AnswersByTables : Tables → Asked → Message → Tables → Type 0
AnswersByTables old a reply new = AnswersCalls (calls_of a) (reply_kind a) (greeting a) old reply new

-- tables beneath which no file lies: they have no faults and hold no references
abbrev pub AnswersAlone : Tables → Asked → Message → Tables → Type 0
AnswersAlone = AnswersWith AnswersByTables (λ _. 0) (λ _. [])
