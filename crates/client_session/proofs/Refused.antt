-- The refusals of a desk that waits for nobody.
use Rattle.std.proofs.Common.{◌≡◌, ◌≢◌, ◌≤◌, ◌<◌, inl, inr, ◌+◌, ◌^◌, ℕ, List, ◌++◌, drop, slice_index, Option, Some, None, Result, Ok, Err, ap, subst, arith}
use Rattle.std.specs.Prelude.{⊤}
use Rattle.leaf_grammar.specs.declared.grammar.Leaf.{Leaf}
use Rattle.leaf_grammar.specs.declared.grammar.Malformed as malformed
use Rattle.leaf_grammar.specs.declared.grammar.Space.{Space}
use Rattle.leaf_grammar.specs.declared.grammar.Space.TheVariants.{Types, Items}
use Rattle.leaf_grammar.specs.Leaf.{leaf_of}
use Rattle.index_fields.specs.Fields.{missing}
use Rattle.srv_edge.specs.declared.failed.Refusal.{Refusal}
use Rattle.srv_edge.specs.declared.failed.Refusal.TheVariants.{Malformed, NotGiven, Full, Underway, DiskFault, OutOfMemory}
use Rattle.srv_edge.specs.Frames.{Message, refused, word_bytes}
use Rattle.srv_edge.proofs.Numbers.{same_word}
use Rattle.record_table.specs.Table as records
use Rattle.record_table.specs.declared.fault.AddFault.{AddFault}
use Rattle.record_table.specs.declared.fault.AddFault.TheVariants as add_fault
use Rattle.names_table.specs.Names as strings
use Rattle.names_table.specs.declared.fault.NameFault.{NameFault}
use Rattle.names_table.specs.declared.fault.NameFault.TheVariants as name_fault
use Rattle.request_frames.specs.Refusals.{refusal_message}
use Rattle.request_frames.specs.Requests.{Asked, hello, add_type, add_item, add_name, get_type, get_item, get_name, commit, counts, bye, add_types, add_items}
use Rattle.table_model.specs.Calls.{answer, bytes_answer, index_answer}
use Rattle.table_model.specs.Tables.{answer_of_add, answer_of_name, answer_to_bytes, answer_to_leaf, answer_to_record, item_count, type_count}
use Rattle.table_model.specs.declared.call.Call.{Call}
use Rattle.table_model.specs.declared.call.Call.TheVariants.{AddType, AddItem, AddName, GetType, GetItem, GetName, Counts}
use Rattle.table_model.specs.declared.call.Outcome.{Outcome}
use Rattle.table_model.specs.declared.call.Outcome.TheVariants as outcome
use Rattle.type_store.specs.Files.{IsFull, by_age, by_directory, by_blocks}
use Rattle.type_store.specs.Shape.{Shape}
use Rattle.client_session.specs.Course.{Answers, AnswersCommit, Course, IsForOthers}
use Rattle.client_session.specs.Tables.{AnswersCalls, Calls, none, one, each, of_file, Tables, answer_message, calls_of, greeting, reply_kind}

-- what tables alone refuse
abbrev pub IsOwn : Refusal → Type 0
IsOwn (Malformed at what) = ⊤
IsOwn (NotGiven space index) = ⊤
IsOwn (Full which needed) = which ≤ 3
IsOwn (Underway number) = ⊥
IsOwn (DiskFault number) = ⊥
IsOwn OutOfMemory = ⊤

abbrev pub Owns : {A : Type 0} → Result A Refusal → Type 0
Owns (Ok x) = ⊤
Owns (Err refusal) = IsOwn refusal

-- ---- what tables answer

owns_add : (r : Result ℕ AddFault) (most : ℕ) → Owns (answer_of_add r most)
owns_add (Ok index) most = tt
owns_add (Err add_fault.Records) most = omega arith
owns_add (Err (add_fault.Bytes needed)) most = omega arith
owns_add (Err add_fault.OutOfMemory) most = tt

owns_leaf : (field : Option (Space × ℕ)) (answer : Result ℕ Refusal) → Owns answer → Owns (answer_to_leaf field answer)
owns_leaf (Some field) answer owns = tt
owns_leaf None answer owns = owns

owns_bytes : (leaf : Result Leaf malformed.Malformed) (answer : Result ℕ Refusal) → Owns answer → Owns (answer_to_bytes leaf answer)
owns_bytes (Err wrong) answer owns = tt
owns_bytes (Ok leaf) answer owns = owns

owns_name : (r : Result ℕ NameFault) → Owns (answer_of_name r)
owns_name (Ok offset) = tt
owns_name (Err (name_fault.Full needed)) = omega arith
owns_name (Err name_fault.OutOfMemory) = tt

owns_index : (r : Result ℕ Refusal) → Owns r → Owns (index_answer r)
owns_index (Ok n) owns = tt
owns_index (Err refusal) owns = owns

owns_found : (found : Option (List ℕ)) (refusal : Refusal) → IsOwn refusal → Owns (bytes_answer found refusal)
owns_found (Some bytes) refusal owns = tt
owns_found None refusal owns = owns

owns_record : (space : Space) (t : records.Table) (types items : ℕ) (r : List ℕ) → Owns (index_answer (answer_to_record space t types items r))
owns_record space t types items r =
    let added = answer_of_add (records.answer_to_add t r) t.max_records in
    let leaf = answer_to_leaf (missing space r types items) added in
    owns_index (answer_to_record space t types items r)
    (owns_bytes (leaf_of space r) leaf (owns_leaf (missing space r types items) added (owns_add (records.answer_to_add t r) t.max_records)))

pub owns_answer : (x : Tables) (c : Call) → Owns (answer x c)
owns_answer x (AddType r) = owns_record Types x.types (type_count x) (item_count x) r
owns_answer x (AddItem r) = owns_record Items x.items (type_count x) (item_count x) r
owns_answer x (AddName name) = owns_index (answer_of_name (strings.answer_to_add x.names name)) (owns_name (strings.answer_to_add x.names name))
owns_answer x (GetType index) = owns_found (records.record_at x.types index) _ tt
owns_answer x (GetItem index) = owns_found (records.record_at x.items index) _ tt
owns_answer x (GetName offset) = owns_found (strings.name_at x.names offset) _ tt
owns_answer x Counts = tt

-- ---- their messages

-- a refusal of another code, or of another limit, is none for others
code_of : (code a b : ℕ) → code ≢ 9 → code ≢ 6 → ¬ IsForOthers (refused code a b)
code_of code a b not_underway not_full for =
    elim for.1 [
      | inl underway ↦ not_underway (ap (λ m. slice_index m.body 0) underway)
      | inr full ↦ not_full (ap (λ m. slice_index m.body 0) full)
    ]

limit_of : (which needed : ℕ) → which < 2 ^ 32 → which ≢ 4 → ¬ IsForOthers (refused 6 which needed)
limit_of which needed small not_calls for =
    elim for.1 [
      | inl underway ↦ omega (arith, ap (λ m. slice_index m.body 0) underway)
      | inr full ↦ not_calls (same_word which 4 (word_bytes needed) (word_bytes for.0) small (omega arith) (ap (λ m. drop 1 m.body) full)).number
    ]

kind_of : (kind : ℕ) (body : List ℕ) → kind ≢ 255 → ¬ IsForOthers (record { kind = kind; body = body })
kind_of kind body other for = elim for.1 [ inl underway ↦ other (ap (λ m. m.kind) underway) | inr full ↦ other (ap (λ m. m.kind) full) ]

own_message : (refusal : Refusal) → IsOwn refusal → ¬ IsForOthers (refusal_message refusal)
own_message (Malformed at what) own = code_of 4 at what (λ e. omega (arith, e)) (λ e. omega (arith, e))
own_message (NotGiven space index) own = code_of 5 space index (λ e. omega (arith, e)) (λ e. omega (arith, e))
own_message (Full which needed) own = limit_of which needed (omega (arith, own)) (λ e. omega (arith, own, e))
own_message (Underway number) own = absurd own
own_message (DiskFault number) own = absurd own
own_message OutOfMemory own = code_of 7 0 0 (λ e. omega (arith, e)) (λ e. omega (arith, e))

call_message : (kind : ℕ) (r : Result Outcome Refusal) → kind ≢ 255 → Owns r → ¬ IsForOthers (answer_message kind r)
call_message kind (Ok (outcome.Index n)) other own = kind_of kind (word_bytes n) other
call_message kind (Ok (outcome.Bytes bytes)) other own = kind_of kind bytes other
call_message kind (Ok (outcome.Counts types items names)) other own = kind_of kind (word_bytes types ++ word_bytes items ++ word_bytes names) other
call_message kind (Err refusal) other own = own_message refusal own

-- ---- what a desk answers

waits_message : {x y : Message} → x ≡ y → ¬ IsForOthers y → ¬ IsForOthers x
waits_message is other for = other (subst IsForOthers is for)

by_calls : (calls : Calls) (kind : ℕ) (body : List ℕ) (old : Tables) (reply : Message) (new : Tables) → kind ≢ 255 → AnswersCalls calls kind body old reply new → ¬ IsForOthers reply
by_calls none kind body old reply new other answered = waits_message answered.0 (kind_of kind body other)
by_calls (one c) kind body old reply new other (inl answered) = waits_message answered.0 (call_message kind (answer old c) other (owns_answer old c))
by_calls (one c) kind body old reply new other (inr wants) = waits_message wants.0 (own_message OutOfMemory tt)
by_calls (each space list) kind body old reply new other answered = waits_message answered.1 (kind_of kind answered.0 other)
by_calls of_file kind body old reply new other answered = absurd answered

reply_kind_is : (a : Asked) → reply_kind a ≢ 255
reply_kind_is (hello version) = λ e. omega (arith, e)
reply_kind_is (add_type r) = λ e. omega (arith, e)
reply_kind_is (add_item r) = λ e. omega (arith, e)
reply_kind_is (add_name name) = λ e. omega (arith, e)
reply_kind_is (get_type index) = λ e. omega (arith, e)
reply_kind_is (get_item index) = λ e. omega (arith, e)
reply_kind_is (get_name offset) = λ e. omega (arith, e)
reply_kind_is commit = λ e. omega (arith, e)
reply_kind_is counts = λ e. omega (arith, e)
reply_kind_is bye = λ e. omega (arith, e)
reply_kind_is (add_types list) = λ e. omega (arith, e)
reply_kind_is (add_items list) = λ e. omega (arith, e)

full_message : (most_blocks : ℕ) (shape : Shape) (last : ℕ) (tables : Tables) (which needed : ℕ) → IsFull most_blocks shape last tables which needed → ¬ IsForOthers (refused 6 which needed)
full_message most_blocks shape last tables which needed (by_age at) = limit_of 5 0 (omega arith) (λ e. omega (arith, e))
full_message most_blocks shape last tables which needed (by_directory small unfit) = limit_of 6 needed (omega arith) (λ e. omega (arith, e))
full_message most_blocks shape last tables which needed (by_blocks n small fits past may) = limit_of 7 needed (omega arith) (λ e. omega (arith, e))

by_file : (most_blocks : ℕ) (shape : Shape) (old new : Course) (reply : Message) → AnswersCommit most_blocks shape old reply new → ¬ IsForOthers reply
by_file most_blocks shape old new reply (inl done) = waits_message done.1 (kind_of 136 (word_bytes (old.number + 1)) (λ e. omega (arith, e)))
by_file most_blocks shape old new reply (inr (inl failed)) = waits_message failed.1 (code_of 8 (old.number + 1) 0 (λ e. omega (arith, e)) (λ e. omega (arith, e)))
by_file most_blocks shape old new reply (inr (inr (inl full))) = waits_message full.3 (full_message most_blocks shape old.number old.tables full.0 full.1 full.2)
by_file most_blocks shape old new reply (inr (inr (inr wants))) = waits_message wants.1 (own_message OutOfMemory tt)

pub waits_for_nobody : (most_blocks : ℕ) (shape : Shape) (old new : Course) (a : Asked) (reply : Message) → Answers most_blocks shape old a reply new → ¬ IsForOthers reply
waits_for_nobody most_blocks shape old new a reply (inl calls) = by_calls (calls_of a) (reply_kind a) (greeting a) old.tables reply calls.0 (reply_kind_is a) calls.1
waits_for_nobody most_blocks shape old new a reply (inr commits) = by_file most_blocks shape old new reply commits.1
