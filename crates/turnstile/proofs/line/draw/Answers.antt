use Rattle.std.proofs.Common.{arith, refl}
use Rattle.turnstile.proofs.Turns.{draws}
use Rattle.turnstile.proofs.line.draw.Goals as goal

pub compare_exchange-requires : goal.compare_exchange-requires
compare_exchange-requires g c = (c.requires.table.0, omega arith, draws g.V.Historied.basis g.V.Historied.entries g.V.Historied.law _ _ _ _ _ _ _ c.requires.alive.1 c.requires.idle.0 refl)
