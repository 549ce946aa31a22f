use Rattle.std.proofs.Common.{arith}
use Rattle.turnstile.proofs.Turns.{rings}
use Rattle.turnstile.proofs.line.call_next.Goals as goal

pub store-requires : goal.store-requires
store-requires g c = (c.requires.table.0, omega arith, rings g.V.Historied.basis g.V.Historied.entries g.V.Historied.law _ _ _ _ _ _ (omega arith))
