use Rattle.std.proofs.Common.{[], ◌∷◌, ◌++◌, ap, sym, ◌∙◌}
use Rattle.turnstile.specs.declared.view.Place.TheVariants.{Full}
use Rattle.turnstile.proofs.Tellings.{opens_with}
use Rattle.turnstile.proofs.pass.Turnstile.new.Goals as goal

pub new-requires : goal.new-requires
new-requires g c = opens_with g.V.Historied.basis g.V.Historied.entries g.V.Historied.law _ c.args.value _ _ (c.in_default.ensures.items ∙ ap (λ (xs : _). xs ++ Full c.args.value ∷ []) c.new-slots.ensures.items) (ap g.V.Historied.basis (sym c.of-key.ensures)) c.requires c.filed-filed.ensures.lawful
