-- What clauses see of a turn.
use Rattle.std.specs.Prelude.{◌≡◌, false}
use base.Fml.{GName}
use Rattle.atomic_table.specs.Seated.{TableId}
use Rattle.turnstile.specs.declared.turn.Turn.{Turn}
use Rattle.turnstile.specs.Passes.{PassView}

module _ {V : Type 0} where
  -- the value that the turn has
  abbrev pub value_of : Turn V → V
  value_of t = t.value

  -- the pass whose turn it is
  abbrev pub pass_of : Turn V → PassView
  pass_of t = t.pass.now

  abbrev pub gate_of : Turn V → TableId
  gate_of t = t.gate.now

  -- which `&mut` to the pass the turn has
  abbrev pub borrow_of : Turn V → GName
  borrow_of t = t.pass.ghost_name

  -- the pass is in its turn at the turnstile
  abbrev pub IsOpen : Turn V → Type 0
  IsOpen t = ((pass_of t).turnstile ≡ gate_of t) × ((pass_of t).idle ≡ false)

  -- the same turn, at which the value and what the pass has seen may be others
  abbrev pub IsSameTurn : Turn V → Turn V → Type 0
  IsSameTurn t u = (borrow_of u ≡ borrow_of t) × (gate_of u ≡ gate_of t)

  -- the turn with another value
  abbrev pub with_value : Turn V → V → Turn V
  with_value t x = record t { value = x }
