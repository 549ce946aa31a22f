use Rattle.std.proofs.Common.{arith, ◌∙◌}
use Rattle.turnstile.proofs.Turns.{rings}
use Rattle.turnstile.proofs.line.sleep.Goals as goal

pub store-requires : goal.store-requires
store-requires g c = (c.requires.table.0, omega arith, rings g.V.Historied.basis g.V.Historied.entries g.V.Historied.law _ _ _ _ _ _ (omega arith))

pub store-requires-then-peek : goal.store-requires-then-peek
store-requires-then-peek g c = (c.store.ensures.0 ∙ c.requires.table.0, omega arith, rings g.V.Historied.basis g.V.Historied.entries g.V.Historied.law _ _ _ _ _ _ (omega arith))
