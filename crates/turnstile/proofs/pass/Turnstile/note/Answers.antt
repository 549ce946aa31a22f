use Rattle.std.proofs.Common.{arith, ap, sym, ◌∙◌}
use Rattle.turnstile.specs.Passes.{PassView}
use Rattle.turnstile.proofs.Tellings.{splits_note}
use Rattle.turnstile.proofs.pass.Turnstile.note.Goals as goal

pub split_seat-requires : goal.split_seat-requires
split_seat-requires g c = (
  ap (λ (p : PassView). p.turnstile) c.pass.view_is ∙ c.requires.idle.0 ∙ sym c.self.view_is,
  omega arith,
  splits_note g.V.Historied.basis g.V.Historied.entries g.V.Historied.law _ _ _ _ c.pass.invariant.role,
)
