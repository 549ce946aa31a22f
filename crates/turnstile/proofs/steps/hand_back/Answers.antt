use Rattle.std.proofs.Common.{◌∷◌, arith, ap, sym, ◌∙◌}
use Rattle.atomic_table.specs.Table.{Me, rest}
use Rattle.turnstile.specs.declared.view.Place.TheVariants.{Full}
use Rattle.turnstile.proofs.Turns.{leaves}
use Rattle.turnstile.proofs.steps.hand_back.Goals as goal

pub fetch_add-requires : goal.fetch_add-requires
fetch_add-requires g c = (
  c.exchange.ensures.0 ∙ c.requires.table.0,
  omega arith,
  leaves g.V.Historied.basis g.V.Historied.entries g.V.Historied.law _ _ _ _ _ _ c.args.value
      (ap (λ (m : Me _ _). m.0.role) c.exchange.ensures.3 ∙ c.requires.pass.1)
      (ap (λ (m : Me _ _). m.0.stage) c.exchange.ensures.3 ∙ c.requires.loaded.0.1)
      (ap (λ (m : Me _ _). m.1) c.exchange.ensures.3 ∙ ap (λ (cs : _). (0, Full c.args.value) ∷ rest cs) c.requires.loaded.1)
      (c.requires.basis ∙ sym (ap (λ (m : Me _ _). m.0.basis) c.exchange.ensures.3))
      (c.requires.history ∙ sym (ap (λ (m : Me _ _). m.0.seen) c.exchange.ensures.3)),
)
