use Rattle.std.proofs.Common.{arith, ap, ◌∙◌}
use Rattle.atomic_table.specs.Table.{Me}
use Rattle.turnstile.proofs.Turns.{looks}
use Rattle.turnstile.proofs.line.wait.Goals as goal

pub load-requires : goal.load-requires
load-requires g c = (
  c.loop.invariant.seat.0 ∙ c.requires.table.0,
  omega arith,
  looks g.V.Historied.basis g.V.Historied.entries g.V.Historied.law _ _ _ _ _ _
      (ap (λ (m : Me _ _). m.0.role) c.loop.invariant.same ∙ c.requires.waiting.caller)
      (ap (λ (m : Me _ _). m.0.stage) c.loop.invariant.same ∙ c.requires.waiting.waits),
)
