-- A desk over a hub: what each request makes of its pass, and what a session does.
use Rattle.std.proofs.Common.{◌≡◌, ◌⊎◌, inl, inr, ◌==◌, ℕ, false, List, [], ◌∷◌, ◌++◌, Result, Ok, Err, refl, sym, ap, subst, ◌∙◌}
use Rattle.std.specs.Prelude.{IsTrue}
use Rattle.srv_edge.specs.declared.failed.Refusal.{Refusal}
use Rattle.srv_edge.specs.declared.failed.Refusal.TheVariants.{Malformed, NotGiven, Full, Underway, DiskFault, OutOfMemory}
use Rattle.srv_edge.specs.declared.head.Head.{Head}
use Rattle.srv_edge.specs.declared.kind.TheConstants as kinds
use Rattle.srv_edge.specs.Count.{HasCause}
use Rattle.srv_edge.specs.Frames.{Frame, Message, frame_bytes}
use Rattle.turnstile.specs.declared.history.Entry.{Entry}
use Rattle.turnstile.specs.Passes.{PassView}
use Rattle.table_model.specs.declared.call.Outcome.{Outcome}
use Rattle.table_model.specs.declared.call.Outcome.TheVariants as outcome
use Rattle.table_model.specs.Calls.{index_answer}
use Rattle.core_model.specs.Legal.{faulted_ends}
use Rattle.hub.specs.Ends.{AreEnded}
use Rattle.request_frames.specs.Requests.{Asked, hello, add_type, add_item, add_name, get_type, get_item, get_name, commit, counts, bye, add_types, add_items}
use Rattle.request_frames.specs.Talk.{AnswersMessage, IsTalk, PutsReply, is_disk_fault}
use Rattle.client_session.specs.Sharing.{HasMade, SharedWithCauses, SharedAnswers, SharesCalls}
use Rattle.client_session.specs.Tables.{Calls, none, one, each, of_file, answer_message, calls_of, greeting, reply_kind}
use Rattle.client_session.proofs.Ending.{made_by}
use Rattle.client_session.proofs.Passing.{MadeCalls, calls_by_it, calls_each, calls_none, calm_kind, calm_message, cause_calls, ended_calls, made_none, made_on, refused_for}

-- What the pass of a desk has made by a request, and the cause of the reply.
record Made (old : PassView) (reply : Message) (new : PassView) : Type 0 where
  own : List Entry
  made : HasMade old own new
  ended : AreEnded old.mine → AreEnded new.mine
  cause : HasCause (IsTrue (is_disk_fault reply)) (faulted_ends old.mine) (faulted_ends new.mine)

made_calls : (old : PassView) (reply : Message) (new : PassView) → MadeCalls old new → is_disk_fault reply ≡ false → Made old reply new
made_calls old reply new m calm = record { own = m.own; made = m.made; ended = ended_calls old new m; cause = cause_calls old new (is_disk_fault reply) m calm }

calm_is : (x y : Message) → x ≡ y → is_disk_fault y ≡ false → is_disk_fault x ≡ false
calm_is x y is calm = ap is_disk_fault is ∙ calm

-- by its calls; a commit is replied to by its own kind
made_in : (calls : Calls) (kind : ℕ) (body : List ℕ) (old : PassView) (reply : Message) (new : PassView) → (kind == 255) ≡ false → (calls ≡ of_file → kind ≡ 136) → SharesCalls calls kind body old reply new → Made old reply new
made_in none kind body old reply new other file shares =
    made_calls old reply new (calls_none old new shares.1) (calm_is reply (record { kind = kind; body = body }) shares.0 (calm_kind kind body other))
made_in (one c) kind body old reply new other file shares =
    made_calls old reply new (calls_by_it old c shares.0 new shares.2) (calm_is reply (answer_message kind shares.0) shares.1 (calm_message kind c shares.0 other (refused_for old c shares.0 new shares.2.made)))
made_in (each space list) kind body old reply new other file shares =
    made_calls old reply new (calls_each space old shares.2.0 shares.0 new shares.2.2) (calm_is reply (record { kind = kind; body = shares.0 }) shares.1 (calm_kind kind shares.0 other))
made_in of_file kind body old reply new other file shares =
    let m = made_by old shares.0 new shares.2 in
    let is : reply ≡ answer_message 136 (index_answer shares.0) = shares.1 ∙ ap (λ k. answer_message k (index_answer shares.0)) (file refl) in
    record { own = m.own; made = m.made; ended = m.ended; cause = subst (λ r. HasCause (IsTrue (is_disk_fault r)) (faulted_ends old.mine) (faulted_ends new.mine)) (sym is) m.cause }

kind_is_none : (a : Asked) → (reply_kind a == 255) ≡ false
kind_is_none (hello version) = refl
kind_is_none (add_type r) = refl
kind_is_none (add_item r) = refl
kind_is_none (add_name name) = refl
kind_is_none (get_type index) = refl
kind_is_none (get_item index) = refl
kind_is_none (get_name offset) = refl
kind_is_none commit = refl
kind_is_none counts = refl
kind_is_none bye = refl
kind_is_none (add_types list) = refl
kind_is_none (add_items list) = refl

kind_of_file : (a : Asked) → calls_of a ≡ of_file → reply_kind a ≡ 136
kind_of_file (hello version) is = cc
kind_of_file (add_type r) is = cc
kind_of_file (add_item r) is = cc
kind_of_file (add_name name) is = cc
kind_of_file (get_type index) is = cc
kind_of_file (get_item index) is = cc
kind_of_file (get_name offset) is = cc
kind_of_file commit is = refl
kind_of_file counts is = cc
kind_of_file bye is = cc
kind_of_file (add_types list) is = cc
kind_of_file (add_items list) is = cc

made_of : (old : PassView) (a : Asked) (reply : Message) (new : PassView) → SharedAnswers old a reply new → Made old reply new
made_of old a reply new shares = made_in (calls_of a) (reply_kind a) (greeting a) old reply new (kind_is_none a) (kind_of_file a) shares

-- behind a request each commit of the pass has ended, if each had before
pub ended_on : (old : PassView) (a : Asked) (reply : Message) (new : PassView) → SharedAnswers old a reply new → AreEnded old.mine → AreEnded new.mine
ended_on old a reply new shares = (made_of old a reply new shares).ended

-- ---- the kind of a reply

kind_of_answer : (kind : ℕ) (r : Result Outcome Refusal) → ((answer_message kind r).kind ≡ kind) ⊎ ((answer_message kind r).kind ≡ kinds.REFUSED)
kind_of_answer kind (Ok (outcome.Index n)) = inl refl
kind_of_answer kind (Ok (outcome.Bytes bytes)) = inl refl
kind_of_answer kind (Ok (outcome.Counts types items names)) = inl refl
kind_of_answer kind (Err (Malformed at what)) = inr refl
kind_of_answer kind (Err (NotGiven space index)) = inr refl
kind_of_answer kind (Err (Full which needed)) = inr refl
kind_of_answer kind (Err (Underway number)) = inr refl
kind_of_answer kind (Err (DiskFault number)) = inr refl
kind_of_answer kind (Err OutOfMemory) = inr refl

kind_at : (kind : ℕ) (x y : Message) → x ≡ y → (y.kind ≡ kind) ⊎ (y.kind ≡ kinds.REFUSED) → (x.kind ≡ kind) ⊎ (x.kind ≡ kinds.REFUSED)
kind_at kind x y is of = subst (λ (m : Message). (m.kind ≡ kind) ⊎ (m.kind ≡ kinds.REFUSED)) (sym is) of

kind_in : (calls : Calls) (kind : ℕ) (body : List ℕ) (old : PassView) (reply : Message) (new : PassView) → SharesCalls calls kind body old reply new → (reply.kind ≡ kind) ⊎ (reply.kind ≡ kinds.REFUSED)
kind_in none kind body old reply new shares = kind_at kind reply (record { kind = kind; body = body }) shares.0 (inl refl)
kind_in (one c) kind body old reply new shares = kind_at kind reply (answer_message kind shares.0) shares.1 (kind_of_answer kind shares.0)
kind_in (each space list) kind body old reply new shares = kind_at kind reply (record { kind = kind; body = shares.0 }) shares.1 (inl refl)
kind_in of_file kind body old reply new shares = kind_at kind reply (answer_message kind (index_answer shares.0)) shares.1 (kind_of_answer kind (index_answer shares.0))

-- A reply that stands in a piece.
pub puts : (head : Head) (old : PassView) (a : Asked) (reply : Message) (out : List ℕ) (new : PassView) → out ≡ frame_bytes (record { head = head; message = reply }) → SharedAnswers old a reply new → PutsReply SharedWithCauses head old a out new
puts head old a reply out new spelled shares = record {
  reply = reply;
  spelled = spelled;
  answered = record { answered = shares; same_loans = refl; cause = (made_of old a reply new shares).cause };
  of_kind = kind_in (calls_of a) (reply_kind a) (greeting a) old reply new shares;
}

-- ---- a session

abbrev Step : PassView → PassView → Type 0
Step old new = (own : List Entry) × HasMade old own new

nothing : (old new : PassView) → new ≡ old → Step old new
nothing old new is = ([], subst (HasMade old []) (sym is) (made_none old))

by_message : (version : ℕ) (old : PassView) (m reply : Message) (new : PassView) → AnswersMessage SharedAnswers version old m reply new → Step old new
by_message version old m reply new (inl done) = let made = made_of old done.0 reply new done.3 in (made.own, made.made)
by_message version old m reply new (inr (inl bad)) = nothing old new bad.2
by_message version old m reply new (inr (inr bad)) = nothing old new bad.2

-- The pass's own calls grow by those of the requests, each of them once and in order.
pub talk_makes : (old new : PassView) (frames replies : List Frame) → IsTalk SharedAnswers old frames replies new → (own : List Entry) × HasMade old own new
talk_makes old new [] [] talk = nothing old new talk
talk_makes old new [] (r ∷ replies) talk = absurd talk
talk_makes old new (f ∷ frames) [] talk = absurd talk
talk_makes old new (f ∷ frames) (r ∷ replies) talk =
    let step = by_message f.head.version old f.message r.message talk.0 talk.1.1 in
    let rest = talk_makes talk.0 new frames replies talk.2 in
    (step.0 ++ rest.0, made_on old talk.0 new step.0 rest.0 step.1 rest.1)
