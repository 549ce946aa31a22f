use Rattle.std.proofs.Common.{arith, ap, sym, ◌∙◌}
use Rattle.turnstile.specs.Passes.{PassView}
use Rattle.turnstile.specs.declared.view.Role.TheVariants.{Caller}
use Rattle.turnstile.proofs.Passing.{idle_is, idle_carries}
use Rattle.turnstile.proofs.Tellings.{joins_pass}
use Rattle.turnstile.proofs.pass.Turnstile.retire.Goals as goal

pub join_seat-requires : goal.join_seat-requires
join_seat-requires g c = (
  ap (λ (p : PassView). p.turnstile) c.first.view_is ∙ c.requires.idle.0 ∙ sym c.self.view_is,
  ap (λ (p : PassView). p.turnstile) c.ended.view_is ∙ c.requires.ended.0 ∙ sym c.self.view_is,
  idle_carries _ _ (ap (λ (p : PassView). p.idle) c.ended.view_is ∙ c.requires.ended.1) c.ended.invariant.carries,
  omega arith,
  joins_pass g.V.Historied.basis g.V.Historied.entries g.V.Historied.law _ _ _ _ _ _
      (c.first.invariant.role ∙ ap (λ (p : PassView). Caller p.number) c.first.view_is ∙ ap Caller c.requires.first)
      (idle_is _ (ap (λ (p : PassView). p.idle) c.first.view_is ∙ c.requires.idle.1))
      c.ended.invariant.role
      (idle_is _ (ap (λ (p : PassView). p.idle) c.ended.view_is ∙ c.requires.ended.1)),
)
