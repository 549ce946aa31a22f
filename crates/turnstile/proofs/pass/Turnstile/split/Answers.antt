use Rattle.std.proofs.Common.{ℕ, ◌<◌, arith, ap, sym, subst, ◌∙◌}
use Rattle.turnstile.specs.Passes.{PassView}
use Rattle.turnstile.specs.declared.view.Role.TheVariants.{Caller}
use Rattle.turnstile.proofs.Tellings.{splits_pass}
use Rattle.turnstile.proofs.pass.Turnstile.split.Goals as goal

pub split_seat-seat-requires : goal.split_seat-seat-requires
split_seat-seat-requires g c = (
  ap (λ (p : PassView). p.turnstile) c.first.view_is ∙ c.requires.idle.0 ∙ sym c.self.view_is,
  omega arith,
  splits_pass g.V.Historied.basis g.V.Historied.entries g.V.Historied.law _ _ _
      (c.first.invariant.role ∙ ap (λ (p : PassView). Caller p.number) c.first.view_is ∙ ap Caller c.requires.first)
      (subst (λ (n : ℕ). n < 255) (sym (ap (λ (p : PassView). p.made) c.first.view_is)) c.requires.room),
)
