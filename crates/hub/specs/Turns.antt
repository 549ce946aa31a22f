-- What clauses see of a turn at a hub.
use Rattle.std.specs.Prelude.{◌≡◌, true}
use Rattle.leaf_grammar.specs.declared.grammar.Space.{Space}
use Rattle.leaf_grammar.specs.declared.grammar.Space.TheVariants as leaf
use Rattle.call_journal.specs.declared.deed.TableKind.{TableKind}
use Rattle.call_journal.specs.declared.deed.TableKind.TheVariants.{Types, Items}
use Rattle.turnstile.specs.Histories.{Begins}
use Rattle.turnstile.specs.Passes.{IsSamePass, IsSound, PassView}
use Rattle.turnstile.specs.declared.turn.Turn.{Turn}
use Rattle.turnstile.specs.Turns.{IsOpen, pass_of, value_of}
use Rattle.core_model.specs.History.{IsLegal}
use Rattle.hub.specs.Stories.{HubView}

-- The turn has begun and has not been left: its value is at what the pass has seen, which is lawful.
pub record IsInTurn {D : Type 0} (t : Turn (HubView D)) : Type 0 where
  pub opened : IsOpen t
  pub basis : (value_of t).story.basis ≡ (pass_of t).basis
  pub history : (value_of t).story.entries ≡ (pass_of t).seen
  pub sound : IsSound IsLegal (pass_of t)

-- the pass whose turn it is, as it is behind the turn
abbrev pub pass_in : {D : Type 0} → Turn (HubView D) → PassView
pass_in t = record (pass_of t) { idle = true }

-- The same pass has seen more, and made no call.
pub record IsAhead (old new : PassView) : Type 0 where
  pub same : IsSamePass old new
  pub seen : Begins old.seen new.seen
  pub mine : new.mine ≡ old.mine

-- the table of a space
abbrev pub table_of : Space → TableKind
table_of leaf.Types = Types
table_of leaf.Items = Items
