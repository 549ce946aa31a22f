use Rattle.std.proofs.Common.{arith}
use Rattle.turnstile.proofs.Turns.{sees}
use Rattle.turnstile.proofs.steps.sight.Goals as goal

pub load-requires : goal.load-requires
load-requires g c = (c.requires.table.0, omega arith, sees g.V.Historied.basis g.V.Historied.entries g.V.Historied.law _ _ _ _ _ c.requires.pass.1 c.requires.idle)
