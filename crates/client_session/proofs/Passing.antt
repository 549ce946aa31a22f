-- What calls by a pass make of it, and what they are answered.
use Rattle.std.proofs.Common.{◌≡◌, ◌⊎◌, inl, inr, ◌==◌, ◌&&◌, ℕ, Bool, true, false, List, [], ◌∷◌, ◌++◌, slice_index, Some, None, Result, Ok, Err, refl, sym, ap, subst, ◌∙◌, arith, append_assoc}
use Rattle.std.specs.Prelude.{All, IsTrue, IfErr, Option}
use Rattle.std.proofs.lemmas.Bool.{eqb-true}
use Rattle.std.proofs.lemmas.List.{append-nil}
use Rattle.std.proofs.lemmas.List.Elements.{All-append, All-cons, All-head, All-nil, All-tail, All-weaker, filter_passes}
use Rattle.leaf_grammar.specs.declared.grammar.Leaf.{Leaf}
use Rattle.leaf_grammar.specs.declared.grammar.Malformed as malformed
use Rattle.leaf_grammar.specs.declared.grammar.Space.{Space}
use Rattle.srv_edge.specs.declared.failed.Refusal.{Refusal}
use Rattle.srv_edge.specs.declared.failed.Refusal.TheVariants.{Malformed, NotGiven, Full, Underway, DiskFault, OutOfMemory}
use Rattle.srv_edge.specs.Count.{HasCause}
use Rattle.srv_edge.specs.Frames.{word_bytes}
use Rattle.turnstile.specs.declared.history.Basis.{Basis}
use Rattle.turnstile.specs.declared.history.Entry.{Entry}
use Rattle.turnstile.specs.Histories.{Begins, caller, calls_by}
use Rattle.turnstile.specs.Passes.{IsSamePass, IsSound, PassView}
use Rattle.table_model.specs.declared.call.Call.{Call}
use Rattle.table_model.specs.declared.call.Call.TheVariants.{AddType, AddItem, AddName, GetType, GetItem, GetName, Counts}
use Rattle.table_model.specs.declared.call.Outcome.{Outcome}
use Rattle.table_model.specs.declared.call.Outcome.TheVariants as outcome
use Rattle.record_table.specs.Table as records
use Rattle.names_table.specs.Names as strings
use Rattle.table_model.specs.Tables.{Tables}
use Rattle.table_model.specs.Calls.{answer, bytes_answer, index_answer}
use Rattle.core_model.specs.History.{IsLegal, after}
use Rattle.core_model.specs.Legal.{AreCalls, IsNoCommit, faulted_ends}
use Rattle.core_model.proofs.Open.{faulted_same}
use Rattle.hub.specs.Calls.{IsUnfiled}
use Rattle.hub.specs.Ends.{AreEnded, IsNoBeginning}
use Rattle.hub.specs.Kept.{IsNoEnd}
use Rattle.hub.specs.Passes.{IsAnswered, IsMalformed, IsRefused}
use Rattle.request_frames.specs.Refusals.{refusal_message}
use Rattle.request_frames.specs.Talk.{is_disk_fault}
use Rattle.client_session.specs.Sharing.{AddsEachBy, CallsBy, CallsHub, HasMade, Refuses, RefusesAdd, RefusesRead, TakesPlace}
use Rattle.client_session.specs.Tables.{answer_message, call_to_add}
use Rattle.client_session.proofs.Refused.{Owns, owns_answer}

-- ---- what calls are refused for

add_owned : (r : Result Outcome Refusal) → Owns r → IfErr r RefusesAdd
add_owned (Ok x) own = tt
add_owned (Err (Malformed at what)) own = tt
add_owned (Err (NotGiven space index)) own = tt
add_owned (Err (Full which needed)) own = omega (arith, own)
add_owned (Err (Underway number)) own = absurd own
add_owned (Err (DiskFault number)) own = absurd own
add_owned (Err OutOfMemory) own = tt

add_unfiled : (b : Basis) (h : List Entry) (why : Refusal) → IsUnfiled b h why → RefusesAdd why
add_unfiled b h why (inl full) = subst RefusesAdd (sym full.0) (omega arith)
add_unfiled b h why (inr wants) = subst RefusesAdd (sym wants) tt

add_place : (old : PassView) (c : Call) (answered : Result Outcome Refusal) (new : PassView) → TakesPlace old c answered new → IfErr answered RefusesAdd
add_place old c answered new (inl a) = add_owned answered (subst (λ (r : Result Outcome Refusal). Owns r) (sym a.right) (owns_answer (after old.basis a.before) c))
add_place old c answered new (inr r) = subst (λ (z : Result Outcome Refusal). IfErr z RefusesAdd) (sym r.is) (add_unfiled old.basis new.seen r.why r.cause)

add_malformed : (old new : PassView) (leaf : Result Leaf malformed.Malformed) (answered : Result Outcome Refusal) → IsMalformed old new leaf answered → IfErr answered RefusesAdd
add_malformed old new leaf answered m = subst (λ (z : Result Outcome Refusal). IfErr z RefusesAdd) (sym m.is) tt

read_unfiled : (b : Basis) (h : List Entry) (why : Refusal) → IsUnfiled b h why → RefusesRead why
read_unfiled b h why (inl full) = subst RefusesRead (sym full.0) refl
read_unfiled b h why (inr wants) = subst RefusesRead (sym wants) tt

read_place : (old : PassView) (c : Call) (answered : Result Outcome Refusal) (new : PassView) → ((x : Tables) → IfErr (answer x c) RefusesRead) → TakesPlace old c answered new → IfErr answered RefusesRead
read_place old c answered new right (inl a) = subst (λ (z : Result Outcome Refusal). IfErr z RefusesRead) (sym a.right) (right (after old.basis a.before))
read_place old c answered new right (inr r) = subst (λ (z : Result Outcome Refusal). IfErr z RefusesRead) (sym r.is) (read_unfiled old.basis new.seen r.why r.cause)

found : (it : Option (List ℕ)) (space index : ℕ) → IfErr (bytes_answer it (NotGiven space index)) RefusesRead
found (Some bytes) space index = tt
found None space index = tt

-- what a call by a pass is refused for
pub refused_for : (old : PassView) (c : Call) (answered : Result Outcome Refusal) (new : PassView) → CallsHub old c answered new → IfErr answered (Refuses c)
refused_for old (AddType r) answered new (inl m) = add_malformed old new _ answered m
refused_for old (AddType r) answered new (inr p) = add_place old (AddType r) answered new p
refused_for old (AddItem r) answered new (inl m) = add_malformed old new _ answered m
refused_for old (AddItem r) answered new (inr p) = add_place old (AddItem r) answered new p
refused_for old (AddName name) answered new p = add_place old (AddName name) answered new p
refused_for old (GetType index) answered new p = read_place old (GetType index) answered new (λ x. found (records.record_at x.types index) _ index) p
refused_for old (GetItem index) answered new p = read_place old (GetItem index) answered new (λ x. found (records.record_at x.items index) _ index) p
refused_for old (GetName offset) answered new p = read_place old (GetName offset) answered new (λ x. found (strings.name_at x.names offset) _ offset) p
refused_for old Counts answered new p = read_place old Counts answered new (λ x. tt) p

-- ---- their messages

calm_add : (why : Refusal) → RefusesAdd why → is_disk_fault (refusal_message why) ≡ false
calm_add (Malformed at what) of = refl
calm_add (NotGiven space index) of = refl
calm_add (Full which needed) of = refl
calm_add (Underway number) of = absurd of
calm_add (DiskFault number) of = absurd of
calm_add OutOfMemory of = refl

calm_read : (why : Refusal) → RefusesRead why → is_disk_fault (refusal_message why) ≡ false
calm_read (Malformed at what) of = absurd of
calm_read (NotGiven space index) of = refl
calm_read (Full which needed) of = refl
calm_read (Underway number) of = absurd of
calm_read (DiskFault number) of = absurd of
calm_read OutOfMemory of = refl

calm_refusal : (c : Call) (why : Refusal) → Refuses c why → is_disk_fault (refusal_message why) ≡ false
calm_refusal (AddType r) why of = calm_add why of
calm_refusal (AddItem r) why of = calm_add why of
calm_refusal (AddName name) why of = calm_add why of
calm_refusal (GetType index) why of = calm_read why of
calm_refusal (GetItem index) why of = calm_read why of
calm_refusal (GetName offset) why of = calm_read why of
calm_refusal Counts why of = calm_read why of

-- a message of another kind is no refusal
pub calm_kind : (kind : ℕ) (body : List ℕ) → (kind == 255) ≡ false → is_disk_fault (record { kind = kind; body = body }) ≡ false
calm_kind kind body other = ap (λ t. t && (slice_index body 0 == 8)) other

pub calm_message : (kind : ℕ) (c : Call) (r : Result Outcome Refusal) → (kind == 255) ≡ false → IfErr r (Refuses c) → is_disk_fault (answer_message kind r) ≡ false
calm_message kind c (Ok (outcome.Index n)) other of = calm_kind kind (word_bytes n) other
calm_message kind c (Ok (outcome.Bytes bytes)) other of = calm_kind kind bytes other
calm_message kind c (Ok (outcome.Counts types items names)) other of = calm_kind kind (word_bytes types ++ word_bytes items ++ word_bytes names) other
calm_message kind c (Err why) other of = calm_refusal c why of

-- ---- histories and passes

all_front : (P : Entry → Type 0) (front rest : List Entry) → All P (front ++ rest) → All P front
all_front P [] rest a = All-nil P
all_front P (x ∷ front) rest a = All-cons P x front (All-head P x (front ++ rest) a) (all_front P front rest (All-tail P x (front ++ rest) a))

all_behind : (P : Entry → Type 0) (front rest : List Entry) → All P (front ++ rest) → All P rest
all_behind P [] rest a = a
all_behind P (x ∷ front) rest a = all_behind P front rest (All-tail P x (front ++ rest) a)

pub begins_self : (h : List Entry) → Begins h h
begins_self h = record { rest = []; whole = sym (append-nil h) }

begins_on : (a b c : List Entry) → Begins a b → Begins b c → Begins a c
begins_on a b c one two = record { rest = one.rest ++ two.rest; whole = two.whole ∙ ap (λ h. h ++ two.rest) one.whole ∙ append_assoc a one.rest two.rest }

pub begins_more : (a b c more : List Entry) → Begins a b → c ≡ b ++ more → Begins a c
begins_more a b c more one is = begins_on a b c one (record { rest = more; whole = is })

pub same_self : (p : PassView) → IsSamePass p p
same_self p = (refl, refl, refl, refl, refl)

pub same_on : (p q r : PassView) → IsSamePass p q → IsSamePass q r → IsSamePass p r
same_on p q r a b = (b.0 ∙ a.0, b.1 ∙ a.1, b.2 ∙ a.2, b.3 ∙ a.3, b.4 ∙ a.4)

abbrev IsBy : ℕ → Entry → Type 0
IsBy n e = caller e ≡ n

-- the further calls of a pass are of its number, since all are
pub by_its_number : (old new : PassView) (own : List Entry) → IsSamePass old new → IsSound IsLegal new → new.mine ≡ old.mine ++ own → All (IsBy old.number) own
by_its_number old new own same sound mine =
    let n = old.number in
    let each : All (IsBy n) (calls_by n new.seen) =
    All-weaker (λ e. (caller e == n) ≡ true) (IsBy n) (λ e is. eqb-true (caller e) n is) (calls_by n new.seen) (filter_passes (λ e. caller e == n) new.seen) in
    let all : All (IsBy n) (calls_by new.number new.seen) = subst (λ m. All (IsBy n) (calls_by m new.seen)) (sym same.1) each in
    all_behind (IsBy n) old.mine own (subst (All (IsBy n)) (sym sound.own ∙ mine) all)

-- ---- what is made

pub made_none : (p : PassView) → HasMade p [] p
made_none p = record { same = same_self p; seen = begins_self p.seen; mine = sym (append-nil p.mine); by_it = All-nil (IsBy p.number) }

pub made_on : (p q r : PassView) (xs ys : List Entry) → HasMade p xs q → HasMade q ys r → HasMade p (xs ++ ys) r
made_on p q r xs ys a b = record {
  same = same_on p q r a.same b.same;
  seen = begins_on p.seen q.seen r.seen a.seen b.seen;
  mine = b.mine ∙ ap (λ h. h ++ ys) a.mine ∙ append_assoc p.mine xs ys;
  by_it = All-append (IsBy p.number) xs ys a.by_it (subst (λ n. All (IsBy n) ys) a.same.1 b.by_it);
}

-- a pass has gone on by calls that neither begin nor end a commit
pub record MadeCalls (old new : PassView) : Type 0 where
  pub own : List Entry
  pub calls : AreCalls own
  pub made : HasMade old own new

pub calls_none : (p q : PassView) → q ≡ p → MadeCalls p q
calls_none p q is = subst (λ z. MadeCalls p z) (sym is) (record { own = []; calls = All-nil IsNoCommit; made = made_none p })

calls_on : (p q r : PassView) → MadeCalls p q → MadeCalls q r → MadeCalls p r
calls_on p q r a b = record { own = a.own ++ b.own; calls = All-append IsNoCommit a.own b.own a.calls b.calls; made = made_on p q r a.own b.own a.made b.made }

-- the same, before it is known whose calls they are
record Makes (old new : PassView) : Type 0 where
  own : List Entry
  calls : AreCalls own
  seen : Begins old.seen new.seen
  mine : new.mine ≡ old.mine ++ own

makes_none : (old new : PassView) → Begins old.seen new.seen → new.mine ≡ old.mine → Makes old new
makes_none old new seen mine = record { own = []; calls = All-nil IsNoCommit; seen = seen; mine = mine ∙ sym (append-nil old.mine) }

makes_place : (old : PassView) (c : Call) (answered : Result Outcome Refusal) (new : PassView) → TakesPlace old c answered new → Makes old new
makes_place old c answered new (inl a) = record {
  own = a.entry ∷ [];
  calls = All-cons IsNoCommit a.entry [] a.plain (All-nil IsNoCommit);
  seen = begins_more old.seen a.before new.seen (a.entry ∷ []) a.first a.seen;
  mine = a.mine;
}
makes_place old c answered new (inr r) = makes_none old new r.first r.mine

makes_malformed : (old new : PassView) (leaf : Result Leaf malformed.Malformed) (answered : Result Outcome Refusal) → IsMalformed old new leaf answered → Makes old new
makes_malformed old new leaf answered m = subst (λ z. Makes old z) (sym m.same) (makes_none old old (begins_self old.seen) refl)

makes_hub : (old : PassView) (c : Call) (answered : Result Outcome Refusal) (new : PassView) → CallsHub old c answered new → Makes old new
makes_hub old (AddType r) answered new (inl m) = makes_malformed old new _ answered m
makes_hub old (AddType r) answered new (inr p) = makes_place old (AddType r) answered new p
makes_hub old (AddItem r) answered new (inl m) = makes_malformed old new _ answered m
makes_hub old (AddItem r) answered new (inr p) = makes_place old (AddItem r) answered new p
makes_hub old (AddName name) answered new p = makes_place old (AddName name) answered new p
makes_hub old (GetType index) answered new p = makes_place old (GetType index) answered new p
makes_hub old (GetItem index) answered new p = makes_place old (GetItem index) answered new p
makes_hub old (GetName offset) answered new p = makes_place old (GetName offset) answered new p
makes_hub old Counts answered new p = makes_place old Counts answered new p

made_of : (old new : PassView) (m : Makes old new) → IsSamePass old new → IsSound IsLegal new → HasMade old m.own new
made_of old new m same sound = record { same = same; seen = m.seen; mine = m.mine; by_it = by_its_number old new m.own same sound m.mine }

pub calls_by_it : (old : PassView) (c : Call) (answered : Result Outcome Refusal) (new : PassView) → CallsBy old c answered new → MadeCalls old new
calls_by_it old c answered new by = let m = makes_hub old c answered new by.made in record { own = m.own; calls = m.calls; made = made_of old new m by.same by.sound }

pub calls_each : (space : Space) (old : PassView) (records : List (List ℕ)) (parts : List ℕ) (new : PassView) → AddsEachBy space old records parts new → MadeCalls old new
calls_each space old [] parts new each = calls_none old new each.1
calls_each space old (r ∷ records) parts new each =
    calls_on old each.2 new (calls_by_it old (call_to_add space r) (index_answer each.0) each.2 each.4) (calls_each space each.2 records each.1 new each.5)

-- ---- each commit of the pass has ended

none_begin : (number : ℕ) (own : List Entry) → AreCalls own → All (IsNoBeginning number) own
none_begin number own calls = All-weaker IsNoCommit (IsNoBeginning number) (λ e no_commit. no_commit.begins_none number) own calls

pub ended_more : (mine own : List Entry) → ((number : ℕ) → All (IsNoEnd number) own → All (IsNoBeginning number) own) → AreEnded mine → AreEnded (mine ++ own)
ended_more mine own more ended = λ number none.
    All-append (IsNoBeginning number) mine own (ended number (all_front (IsNoEnd number) mine own none)) (more number (all_behind (IsNoEnd number) mine own none))

pub ended_calls : (old new : PassView) → MadeCalls old new → AreEnded old.mine → AreEnded new.mine
ended_calls old new m ended = subst AreEnded (sym m.made.mine) (ended_more old.mine m.own (λ number none. none_begin number m.own m.calls) ended)

-- calls end no commit as faulted
faulted_calls : (mine own : List Entry) → AreCalls own → faulted_ends (mine ++ own) ≡ faulted_ends mine
faulted_calls mine [] calls = ap faulted_ends (append-nil mine)
faulted_calls mine (e ∷ own) calls =
    let head = All-head IsNoCommit e own calls in
    ap faulted_ends (sym (append_assoc mine (e ∷ []) own))
    ∙ faulted_calls (mine ++ e ∷ []) own (All-tail IsNoCommit e own calls)
    ∙ faulted_same mine e (λ n. head.ends_none n false)

pub cause_calls : (old new : PassView) (is_fault : Bool) → MadeCalls old new → is_fault ≡ false → HasCause (IsTrue is_fault) (faulted_ends old.mine) (faulted_ends new.mine)
cause_calls old new is_fault m none =
    let same : faulted_ends new.mine ≡ faulted_ends old.mine = ap faulted_ends m.made.mine ∙ faulted_calls old.mine m.own m.calls in
    record { never_falls = omega (arith, same); rose = λ fault. absurd (let no : true ≡ false = sym fault ∙ none in cc) }

pub ended_by_it : (old : PassView) (c : Call) (answered : Result Outcome Refusal) (new : PassView) → CallsBy old c answered new → AreEnded old.mine → AreEnded new.mine
ended_by_it old c answered new by = ended_calls old new (calls_by_it old c answered new by)

-- a refusal is one of any answer
abbrev refusal_as : {A B : Type 0} → Result A Refusal → Result B Refusal
refusal_as (Ok x) = Err OutOfMemory
refusal_as (Err why) = Err why

pub refused_as : {A B : Type 0} (old new : PassView) (why : Refusal) → ⊥ ⊎ IsRefused {A = A} old new (Err why) → IsRefused {A = B} old new (Err why)
refused_as old new why (inl no_answer) = absurd no_answer
refused_as {A} {B} old new why (inr r) = record { why = r.why; is = ap (refusal_as {A = A} {B = B}) r.is; first = r.first; mine = r.mine; cause = r.cause }

pub place_of_index : (old : PassView) (c : Call) (result : Result ℕ Refusal) (new : PassView) → IsAnswered old new c (index_answer result) ⊎ IsRefused old new result → TakesPlace old c (index_answer result) new
place_of_index old c result new (inl a) = inl a
place_of_index old c result new (inr r) = inr (record { why = r.why; is = ap index_answer r.is; first = r.first; mine = r.mine; cause = r.cause })
