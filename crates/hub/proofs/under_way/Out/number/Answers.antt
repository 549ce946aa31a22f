use Rattle.std.proofs.Common.{sym, ap, ◌∙◌}
use Rattle.table_model.specs.Cut.{Cut}
use Rattle.hub.proofs.Ending.{number_kept}
use Rattle.hub.proofs.under_way.Out.number.Goals as goal

pub returns : goal.returns
returns g c =
    rw (← c.self.view_is) (c.number.ensures ∙ ap (λ (z : Cut). z.number) c.self.invariant.cut ∙ sym (number_kept c.self.inside.kept.value.story.basis c.self.inside.kept.value.story.entries c.self.invariant.begun))
