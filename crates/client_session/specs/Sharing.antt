-- What a desk over a hub answers: each request by a call of its pass, behind what others have filed.
use Rattle.std.specs.Prelude.{◌≡◌, ◌+◌, ◌≤◌, ◌⊎◌, ⊤, ℕ, List, [], ◌∷◌, ◌++◌, All, Result, IsOk, IsErrAnd}
use Rattle.leaf_grammar.specs.declared.grammar.Space.{Space}
use Rattle.leaf_grammar.specs.declared.grammar.Space.TheVariants.{Types, Items}
use Rattle.leaf_grammar.specs.Leaf.{leaf_of}
use Rattle.srv_edge.specs.declared.kind.TheConstants.{COMMIT, GET_ITEM, GET_NAME, GET_TYPE, REPLY}
use Rattle.srv_edge.specs.declared.failed.Refusal.{Refusal}
use Rattle.srv_edge.specs.declared.failed.Refusal.TheVariants.{Malformed, NotGiven, Full, Underway, DiskFault, OutOfMemory}
use Rattle.srv_edge.specs.declared.head.Head.{Head}
use Rattle.srv_edge.specs.Frames.{Message, frame_bytes}
use Rattle.srv_edge.specs.Records.{joined}
use Rattle.call_journal.specs.declared.deed.TableKind.{TableKind}
use Rattle.call_journal.specs.declared.deed.TableKind.TheVariants as table
use Rattle.turnstile.specs.declared.history.Entry.{Entry}
use Rattle.turnstile.specs.Histories.{Begins, caller}
use Rattle.turnstile.specs.Passes.{IsSamePass, IsSound, PassView}
use Rattle.table_model.specs.declared.call.Call.{Call}
use Rattle.table_model.specs.declared.call.Call.TheVariants.{AddType, AddItem, AddName, GetType, GetItem, GetName, Counts}
use Rattle.table_model.specs.declared.call.Outcome.{Outcome}
use Rattle.table_model.specs.Calls.{index_answer}
use Rattle.core_model.specs.History.{IsLegal}
use Rattle.core_model.specs.Legal.{faulted_ends}
use Rattle.hub.specs.Passes.{Commits, IsAnswered, IsMalformed, IsNotBegun, IsRefused, IsRefusedUnderWay}
use Rattle.request_frames.specs.Lists.{AreListed, AreRecords}
use Rattle.request_frames.specs.Requests.{Asked}
use Rattle.request_frames.specs.Talk.{AnswersWith}
use Rattle.client_session.specs.Tables.{Calls, none, one, each, of_file, answer_message, call_to_add, calls_of, greeting, index_reply, kind_of_list, part_of, reply_kind}

-- A call has its place in the history and is answered there; or it has no entry.
abbrev pub TakesPlace : PassView → Call → Result Outcome Refusal → PassView → Type 0
TakesPlace old c answered new = IsAnswered old new c answered ⊎ IsRefused old new answered

-- The same of a record, which may be no leaf. That is refused, and nothing is done.
abbrev pub CallsHub : PassView → Call → Result Outcome Refusal → PassView → Type 0
CallsHub old (AddType r) answered new = IsMalformed old new (leaf_of Types r) answered ⊎ TakesPlace old (AddType r) answered new
CallsHub old (AddItem r) answered new = IsMalformed old new (leaf_of Items r) answered ⊎ TakesPlace old (AddItem r) answered new
CallsHub old (AddName name) answered new = TakesPlace old (AddName name) answered new
CallsHub old (GetType index) answered new = TakesPlace old (GetType index) answered new
CallsHub old (GetItem index) answered new = TakesPlace old (GetItem index) answered new
CallsHub old (GetName offset) answered new = TakesPlace old (GetName offset) answered new
CallsHub old Counts answered new = TakesPlace old Counts answered new

-- A call by a pass: it stays the same pass, and what it has seen is lawful.
pub record CallsBy (old : PassView) (c : Call) (answered : Result Outcome Refusal) (new : PassView) : Type 0 where
  pub made : CallsHub old c answered new
  pub same : IsSamePass old new
  pub sound : IsSound IsLegal new

-- Records are added one after another, each by a call of its own. Each has its part of the reply, and one that is refused does
-- not stop the next.
abbrev pub AddsEachBy : Space → PassView → List (List ℕ) → List ℕ → PassView → Type 0
AddsEachBy space old [] parts new = (parts ≡ []) × (new ≡ old)
AddsEachBy space old (r ∷ records) parts new =
    (answered : Result ℕ Refusal) × (rest : List ℕ) × (mid : PassView) × (parts ≡ part_of answered ++ rest) × CallsBy old (call_to_add space r) (index_answer answered) mid × AddsEachBy space mid records rest new

-- the records of a list are added, and the parts of the reply are these
abbrev pub AddsListBy : Space → PassView → List ℕ → List ℕ → PassView → Type 0
AddsListBy space old list parts new = (records : List (List ℕ)) × AreRecords list records × AddsEachBy space old records parts new

-- A commit by a pass: its two entries, or a refusal.
pub record CommitsBy (old : PassView) (answered : Result ℕ Refusal) (new : PassView) : Type 0 where
  pub made : Commits old new answered ⊎ IsErrAnd answered (λ why. IsRefusedUnderWay old new why ⊎ IsNotBegun old new why)
  pub same : IsSamePass old new
  pub sound : IsSound IsLegal new

-- The calls that a request makes are made by a pass, with a reply of this kind, or where there is none with this body.
abbrev pub SharesCalls : Calls → ℕ → List ℕ → PassView → Message → PassView → Type 0
SharesCalls none kind body old reply new = (reply ≡ record { kind = kind; body = body }) × (new ≡ old)
SharesCalls (one c) kind body old reply new = (answered : Result Outcome Refusal) × (reply ≡ answer_message kind answered) × CallsBy old c answered new
SharesCalls (each space list) kind body old reply new =
    (parts : List ℕ) × (reply ≡ record { kind = kind; body = parts }) × AddsListBy space old list parts new
SharesCalls of_file kind body old reply new = (answered : Result ℕ Refusal) × (reply ≡ index_reply kind answered) × CommitsBy old answered new

-- What a desk over a hub answers, by what its pass has seen and done before and behind it.
abbrev pub SharedAnswers : PassView → Asked → Message → PassView → Type 0
SharedAnswers old a reply new = SharesCalls (calls_of a) (reply_kind a) (greeting a) old reply new

-- the same with its causes: how many commits the pass has ended as faulted
abbrev pub SharedWithCauses : PassView → Asked → Message → PassView → Type 0
SharedWithCauses = AnswersWith SharedAnswers (λ p. faulted_ends p.mine) (λ _. [])

-- the kind of a request to get what stands in a table
abbrev pub kind_of_get : TableKind → ℕ
kind_of_get table.Types = GET_TYPE
kind_of_get table.Items = GET_ITEM
kind_of_get table.Names = GET_NAME

-- A call was made by a pass, and its reply stands in a piece: of this kind, where it is no refusal.
pub record PutsCall (head : Head) (kind : ℕ) (old : PassView) (c : Call) (out : List ℕ) (new : PassView) : Type 0 where
  pub answered : Result Outcome Refusal
  pub spelled : out ≡ frame_bytes (record { head = head; message = answer_message kind answered })
  pub called : CallsBy old c answered new

-- A commit was made by a pass, and its reply stands in a piece.
pub record PutsCommit (head : Head) (old : PassView) (out : List ℕ) (new : PassView) : Type 0 where
  pub answered : Result ℕ Refusal
  pub spelled : out ≡ frame_bytes (record { head = head; message = index_reply (COMMIT + REPLY) answered })
  pub called : CommitsBy old answered new

-- Records were added by a pass, and their parts stand in a piece as the reply to their list.
abbrev pub PutsParts : Head → Space → PassView → List ℕ → List ℕ → PassView → Type 0
PutsParts head space old list out new =
    (parts : List ℕ) × (out ≡ frame_bytes (record { head = head; message = record { kind = kind_of_list space + REPLY; body = parts } })) × AddsListBy space old list parts new

-- bytes that are records, one after another, are leaves of a space, all of them
abbrev pub AreLeaves : Space → List ℕ → Type 0
AreLeaves space bytes = (records : List (List ℕ)) → AreListed records → bytes ≡ joined records → All (λ r. IsOk (leaf_of space r)) records

-- what an add may be refused for: what it is, what it names, a limit of the tables or of the calls, or want of memory
abbrev pub RefusesAdd : Refusal → Type 0
RefusesAdd (Malformed at what) = ⊤
RefusesAdd (NotGiven space index) = ⊤
RefusesAdd (Full which needed) = which ≤ 4
RefusesAdd (Underway number) = ⊥
RefusesAdd (DiskFault number) = ⊥
RefusesAdd OutOfMemory = ⊤

-- what a get or counts may be refused for: what is not there, the limit of the calls, which is the fourth, or want of memory
abbrev pub RefusesRead : Refusal → Type 0
RefusesRead (Malformed at what) = ⊥
RefusesRead (NotGiven space index) = ⊤
RefusesRead (Full which needed) = which ≡ 4
RefusesRead (Underway number) = ⊥
RefusesRead (DiskFault number) = ⊥
RefusesRead OutOfMemory = ⊤

-- what a call may be refused for
abbrev pub Refuses : Call → Refusal → Type 0
Refuses (AddType r) why = RefusesAdd why
Refuses (AddItem r) why = RefusesAdd why
Refuses (AddName name) why = RefusesAdd why
Refuses (GetType index) why = RefusesRead why
Refuses (GetItem index) why = RefusesRead why
Refuses (GetName offset) why = RefusesRead why
Refuses Counts why = RefusesRead why

-- A pass has gone on: it is the same, it has seen more, and these are its further calls, each of them once and in order.
pub record HasMade (old : PassView) (own : List Entry) (new : PassView) : Type 0 where
  pub same : IsSamePass old new
  pub seen : Begins old.seen new.seen
  pub mine : new.mine ≡ old.mine ++ own
  pub by_it : All (λ e. caller e ≡ old.number) own
