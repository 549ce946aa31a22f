use Rattle.std.proofs.Common.{arith, ap, ◌∙◌}
use Rattle.atomic_table.specs.Table.{Me}
use Rattle.turnstile.proofs.Turns.{takes_value}
use Rattle.turnstile.proofs.Passing.{taken_first}
use Rattle.turnstile.proofs.steps.claim.Goals as goal

pub load-requires : goal.load-requires
load-requires g c = (
  c.stand.ensures.seat.0 ∙ c.requires.table.0,
  omega arith,
  takes_value g.V.Historied.basis g.V.Historied.entries g.V.Historied.law _ _ _ _ _ _
      (ap (λ (m : Me _ _). m.0.role) c.stand.ensures.served.1 ∙ c.requires.pass.1)
      (ap (λ (m : Me _ _). m.0.stage) c.stand.ensures.served.1),
)

pub exchange-requires : goal.exchange-requires
exchange-requires g c = (c.load.ensures.0 ∙ c.stand.ensures.seat.0 ∙ c.requires.table.0, taken_first _ _ _ (ap (λ (m : Me _ _). m.1) c.load.ensures.2.6))
