-- Calls within a turn, by what the pass was before it and is behind it.
use Rattle.std.proofs.Common.{◌≡◌, ◌≤◌, ◌+◌, ℕ, List, [], ◌∷◌, ◌++◌, Result, inl, inr, ◌⊎◌, true, sym, ap, subst, ◌∙◌, append_assoc}
use Rattle.turnstile.specs.declared.history.Entry.{Entry}
use Rattle.turnstile.specs.Histories.{Begins}
use Rattle.turnstile.specs.Passes.{IsSamePass, PassView}
use Rattle.srv_edge.specs.declared.failed.Refusal.{Refusal}
use Rattle.table_model.specs.declared.call.Call.{Call}
use Rattle.table_model.specs.Calls.{answer, index_answer}
use Rattle.core_model.specs.Entries.{entry_of_call}
use Rattle.core_model.specs.History.{after, most_calls}
use Rattle.hub.specs.Calls.{IsUnfiled}
use Rattle.hub.specs.Passes.{IsAnswered, IsRefused}
use Rattle.hub.specs.Stories.{taken}
use Rattle.hub.specs.Turns.{IsAhead}

begins_behind : (a b c : List Entry) → Begins a b → Begins b c → Begins a c
begins_behind a b c one two = record { rest = one.rest ++ two.rest; whole = two.whole ∙ ap (λ h. h ++ two.rest) one.whole ∙ append_assoc a one.rest two.rest }

-- a call within a turn is one of the pass as it was before the turn
pub called_ahead : (old q new : PassView) (call : Call) (a : Result ℕ Refusal) → IsAhead old q → IsAnswered q new call (index_answer a) ⊎ IsRefused q new a → IsAnswered old new call (index_answer a) ⊎ IsRefused old new a
called_ahead old q new call a ahead (inl i) = inl (record {
  before = i.before;
  first = begins_behind old.seen q.seen i.before ahead.seen i.first;
  right = i.right ∙ ap (λ b. answer (after b i.before) call) ahead.same.2;
  entry = i.entry;
  word = ap (λ n. entry_of_call n call (index_answer a)) (sym ahead.same.1) ∙ i.word;
  plain = i.plain;
  room = subst (λ b. taken b i.before + 1 ≤ most_calls b) ahead.same.2 i.room;
  seen = i.seen;
  mine = i.mine ∙ ap (λ m. m ++ i.entry ∷ []) ahead.mine;
})
called_ahead old q new call a ahead (inr i) = inr (record {
  why = i.why;
  is = i.is;
  first = begins_behind old.seen q.seen new.seen ahead.seen i.first;
  mine = i.mine ∙ ahead.mine;
  cause = subst (λ b. IsUnfiled b new.seen i.why) ahead.same.2 i.cause;
})

-- the pass behind its turn
pub behind_turn : (p q : PassView) → IsSamePass q p → p.idle ≡ true → (p.seen ≡ q.seen) × (p.mine ≡ q.mine) → record q { idle = true } ≡ p
behind_turn p q same idle told =
    ap (λ t. record { turnstile = t; idle = true; number = q.number; basis = q.basis; seen = q.seen; mine = q.mine; made = q.made; ended = q.ended }) (sym same.0)
    ∙ ap (λ t. record { turnstile = p.turnstile; idle = t; number = q.number; basis = q.basis; seen = q.seen; mine = q.mine; made = q.made; ended = q.ended }) (sym idle)
    ∙ ap (λ t. record { turnstile = p.turnstile; idle = p.idle; number = t; basis = q.basis; seen = q.seen; mine = q.mine; made = q.made; ended = q.ended }) (sym same.1)
    ∙ ap (λ t. record { turnstile = p.turnstile; idle = p.idle; number = p.number; basis = t; seen = q.seen; mine = q.mine; made = q.made; ended = q.ended }) (sym same.2)
    ∙ ap (λ t. record { turnstile = p.turnstile; idle = p.idle; number = p.number; basis = p.basis; seen = t; mine = q.mine; made = q.made; ended = q.ended }) (sym told.0)
    ∙ ap (λ t. record { turnstile = p.turnstile; idle = p.idle; number = p.number; basis = p.basis; seen = p.seen; mine = t; made = q.made; ended = q.ended }) (sym told.1)
    ∙ ap (λ t. record { turnstile = p.turnstile; idle = p.idle; number = p.number; basis = p.basis; seen = p.seen; mine = p.mine; made = t; ended = q.ended }) (sym same.3)
    ∙ ap (λ t. record { turnstile = p.turnstile; idle = p.idle; number = p.number; basis = p.basis; seen = p.seen; mine = p.mine; made = p.made; ended = t }) (sym same.4)
