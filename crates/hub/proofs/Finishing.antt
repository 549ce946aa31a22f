-- Calls of a pass behind which each of its commits has ended, and first passes that retired such.
use Rattle.std.proofs.Common.{◌≡◌, ◌<◌, ◌+◌, ◌^◌, ℕ, zero, suc, Bool, List, [], ◌∷◌, ◌++◌, length, Option, Some, Result, Ok, Err, sym, ap, ◌∙◌, subst, arith, ◌⊎◌, ⊎_elim}
use Rattle.std.specs.Prelude.{All, IsErrAnd}
use Rattle.std.proofs.lemmas.List.{length-append}
use Rattle.std.proofs.lemmas.List.Elements.{All-append, All-cons, All-head, All-nil, All-tail}
use mathlib.Core.Option.{some}
use lib.ListN.{get_elem?}
use Rattle.std.proofs.Math.Option.{some-injective}
use Rattle.srv_edge.specs.declared.failed.Refusal.{Refusal}
use Rattle.leaf_grammar.specs.declared.grammar.Leaf.{Leaf}
use Rattle.leaf_grammar.specs.declared.grammar.Malformed.{Malformed}
use Rattle.call_journal.specs.declared.deed.Deed.{Deed}
use Rattle.call_journal.specs.declared.deed.Deed.TheVariants.{Began, Ended, Underway}
use Rattle.call_journal.specs.Words.{deed_of}
use Rattle.call_journal.proofs.Decoding.{deed_of_word}
use Rattle.turnstile.specs.declared.history.Entry.{Entry}
use Rattle.turnstile.specs.declared.view.Ended as view
use Rattle.turnstile.specs.Passes.{IsSamePass, IsSound, PassView, one_more}
use Rattle.table_model.specs.declared.call.Call.{Call}
use Rattle.table_model.specs.declared.call.Outcome.{Outcome}
use Rattle.core_model.specs.Entries.{entry_of}
use Rattle.core_model.specs.History.{IsLegal}
use Rattle.core_model.specs.Legal.{IsNoCommit}
use Rattle.core_model.proofs.Growing.{legal_before}
use Rattle.hub.specs.Ends.{AreEnded, IsFirst, IsNoBeginning}
use Rattle.hub.specs.Kept.{IsNoEnd}
use Rattle.hub.specs.Passes.{Commits, IsAnswered, IsMalformed, IsNotBegun, IsRefused, IsRefusedUnderWay}
use Rattle.hub.proofs.Owning.{open_small}

-- ---- one call more

pub ended_nothing : AreEnded []
ended_nothing number a = All-nil (IsNoBeginning number)

all_in_front : (P : Entry → Type 0) (front rest : List Entry) → All P (front ++ rest) → All P front
all_in_front P [] rest a = All-nil P
all_in_front P (x ∷ front) rest a = All-cons P x front (All-head P x (front ++ rest) a) (all_in_front P front rest (All-tail P x (front ++ rest) a))

ended_more : (mine : List Entry) (e : Entry) → IsNoCommit e → AreEnded mine → AreEnded (mine ++ e ∷ [])
ended_more mine e plain ended number a =
    let P : Entry → Type 0 = IsNoBeginning number in
    All-append P mine (e ∷ []) (ended number (all_in_front (IsNoEnd number) mine (e ∷ []) a)) (All-cons P e [] (plain.begins_none number) (All-nil P))

-- an entry of a deed that begins and ends no commit
no_commit : (c : ℕ) (n : ℕ) → n < 2 ^ 32 → IsNoCommit (entry_of c (Underway n) [])
no_commit c n small =
    let is : deed_of (entry_of c (Underway n) []).word ≡ Some (Underway n) = deed_of_word c (Underway n) small in
    record { begins_none = λ m at. let eq : Some (Underway n) ≡ Some (Began m) = sym is ∙ at in cc; ends_none = λ m ok at. let eq : Some (Underway n) ≡ Some (Ended m ok) = sym is ∙ at in cc }

-- ---- a commit more

last_of : (P : Entry → Type 0) (front : List Entry) (b e : Entry) → All P (front ++ b ∷ e ∷ []) → P e
last_of P [] b e a = All-head P e [] (All-tail P b (e ∷ []) a)
last_of P (x ∷ front) b e a = last_of P front b e (All-tail P x (front ++ b ∷ e ∷ []) a)

abbrev number_in : Option Deed → ℕ
number_in (Some (Began n)) = n
number_in _ = 0

ended_pair : (mine : List Entry) (c n : ℕ) (ok : Bool) → n < 2 ^ 32 → AreEnded mine → AreEnded (mine ++ entry_of c (Began n) [] ∷ entry_of c (Ended n ok) [] ∷ [])
ended_pair mine c n ok small ended number a =
    let B : Entry = entry_of c (Began n) [] in
    let E : Entry = entry_of c (Ended n ok) [] in
    let P : Entry → Type 0 = IsNoBeginning number in
    let begins : deed_of B.word ≡ Some (Began n) = deed_of_word c (Began n) small in
    let ends : deed_of E.word ≡ Some (Ended n ok) = deed_of_word c (Ended n ok) small in
    let last : IsNoEnd number E = last_of (IsNoEnd number) mine B E a in
    let here : P B = λ at. let same : n ≡ number = ap number_in (sym begins ∙ at) in last ok (ends ∙ ap (λ m. Some (Ended m ok)) same) in
    let there : P E = λ at. let eq : Some (Ended n ok) ≡ Some (Began number) = sym ends ∙ at in cc in
    All-append P mine (B ∷ E ∷ []) (ended number (all_in_front (IsNoEnd number) mine (B ∷ E ∷ []) a)) (All-cons P B (E ∷ []) here (All-cons P E [] there (All-nil P)))

-- ---- each call

pub ended_answered : {p q : PassView} {call : Call} {reply : Result Outcome Refusal} → IsAnswered p q call reply → AreEnded p.mine → AreEnded q.mine
ended_answered {p} {q} i ended = subst AreEnded (sym i.mine) (ended_more p.mine i.entry i.plain ended)

pub ended_refused : {A : Type 0} {p q : PassView} {result : Result A Refusal} → IsRefused p q result → AreEnded p.mine → AreEnded q.mine
ended_refused i ended = subst AreEnded (sym i.mine) ended

pub ended_commits : {p q : PassView} {result : Result ℕ Refusal} → Commits p q result → AreEnded p.mine → AreEnded q.mine
ended_commits {p} {q} i ended = subst AreEnded (sym i.mine) (ended_pair p.mine p.number i.number i.acknowledged (omega (arith, i.next, i.begins.may.number)) ended)

pub ended_unbegun : {p q : PassView} {why : Refusal} → IsNotBegun p q why → AreEnded p.mine → AreEnded q.mine
ended_unbegun i ended = subst AreEnded (sym i.mine) ended

pub ended_hindered : {p q : PassView} {why : Refusal} → IsRefusedUnderWay p q why → IsSamePass p q → IsSound IsLegal q → AreEnded p.mine → AreEnded q.mine
ended_hindered {p} {q} i same sound ended =
    let k = i.under_way.commit in
    let legal : IsLegal p.basis i.before = legal_before p.basis i.before q.seen (subst (λ b. IsLegal b q.seen) same.2 sound.lawful) (record { rest = _; whole = i.under_way.filed.entries }) in
    subst AreEnded (sym i.mine) (ended_more p.mine (entry_of p.number (Underway k.number) []) (no_commit p.number k.number (open_small p.basis i.before k legal i.under_way.under_way)) ended)

-- ---- what each call of a hub ensures

pub ended_asked : {A : Type 0} {p q : PassView} {call : Call} {reply : Result Outcome Refusal} {result : Result A Refusal} → IsAnswered p q call reply ⊎ IsRefused p q result → AreEnded p.mine → AreEnded q.mine
ended_asked {A} {p} {q} {call} {reply} {result} told ended = ⊎_elim (λ (i : IsAnswered p q call reply). ended_answered i ended) (λ (i : IsRefused p q result). ended_refused i ended) told

pub ended_added : {A : Type 0} {p q : PassView} {leaf : Result Leaf Malformed} {call : Call} {reply : Result Outcome Refusal} {result : Result A Refusal} → IsMalformed p q leaf result ⊎ (IsAnswered p q call reply ⊎ IsRefused p q result) → AreEnded p.mine → AreEnded q.mine
ended_added {A} {p} {q} {leaf} {call} {reply} {result} told ended =
    ⊎_elim (λ (i : IsMalformed p q leaf result). subst (λ (z : PassView). AreEnded z.mine) (sym i.same) ended) (λ (i : IsAnswered p q call reply ⊎ IsRefused p q result). ended_asked i ended) told

pub ended_not_begun : {p q : PassView} {why : Refusal} → IsRefusedUnderWay p q why ⊎ IsNotBegun p q why → IsSamePass p q → IsSound IsLegal q → AreEnded p.mine → AreEnded q.mine
ended_not_begun {p} {q} {why} told same sound ended = ⊎_elim (λ (i : IsRefusedUnderWay p q why). ended_hindered i same sound ended) (λ (i : IsNotBegun p q why). ended_unbegun i ended) told

pub ended_committed : {p q : PassView} {result : Result ℕ Refusal} → Commits p q result ⊎ IsErrAnd result (λ why. IsRefusedUnderWay p q why ⊎ IsNotBegun p q why) → IsSamePass p q → IsSound IsLegal q → AreEnded p.mine → AreEnded q.mine
ended_committed {p} {q} {result} told same sound ended = ⊎_elim (λ (i : Commits p q result). ended_commits i ended) (refused result) told where
  refused : (r : Result ℕ Refusal) → IsErrAnd r (λ why. IsRefusedUnderWay p q why ⊎ IsNotBegun p q why) → AreEnded q.mine
  refused (Ok n) none = absurd none
  refused (Err why) i = ended_not_begun i same sound ended

-- ---- the first pass

each_more : (P : view.Ended → Type 0) (xs : List view.Ended) (y : view.Ended) → ((k : ℕ) (e : view.Ended) → get_elem? xs k ≡ some e → P e) → P y → (k : ℕ) (e : view.Ended) → get_elem? (xs ++ y ∷ []) k ≡ some e → P e
each_more P [] y each last zero e is = subst P (some-injective y e is) last
each_more P [] y each last (suc k) e is = absurd (cc)
each_more P (x ∷ xs) y each last zero e is = each zero e is
each_more P (x ∷ xs) y each last (suc k) e is = each_more P xs y (λ j d at. each (suc j) d at) last k e is

pub first_same : (others : ℕ) (p q : PassView) → IsSamePass p q → IsFirst others p → IsFirst others q
first_same others p q same first = record {
  number = same.1 ∙ first.number;
  made = ap (λ (es : List view.Ended). length es + others + 1) same.4 ∙ first.made ∙ sym same.3;
  ended = subst (λ (es : List view.Ended). (k : ℕ) (e : view.Ended) → get_elem? es k ≡ some e → AreEnded e.calls) (sym same.4) first.ended;
}

pub first_more : (others : ℕ) (p q : PassView) → q ≡ one_more p → IsFirst others p → IsFirst (others + 1) q
first_more others p q is first = subst (IsFirst (others + 1)) (sym is) (record { number = first.number; made = omega (arith, first.made); ended = first.ended })

pub first_retired : (others : ℕ) (p q e : PassView) (seen : List Entry) → q ≡ record p { seen = seen; ended = p.ended ++ record { number = e.number; calls = e.mine } ∷ [] } → AreEnded e.mine → IsFirst (others + 1) p → IsFirst others q
first_retired others p q e seen is own first =
    let last : view.Ended = record { number = e.number; calls = e.mine } in
    subst (IsFirst others) (sym is) (record {
      number = first.number;
      made = omega (arith, first.made, length-append p.ended (last ∷ []));
      ended = each_more (λ (d : view.Ended). AreEnded d.calls) p.ended last first.ended own;
    })
