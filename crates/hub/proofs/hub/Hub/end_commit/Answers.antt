use Rattle.std.proofs.Common.{arith, ap, ◌∙◌}
use Rattle.hub.specs.Stories.{HubView}
use Rattle.hub.proofs.Passing.{still_in_turn}
use Rattle.hub.proofs.hub.Hub.end_commit.Goals as goal

pub end-reply-requires-clause-still : goal.end-reply-requires-clause-still
end-reply-requires-clause-still g c =
    let t = c.take_turn-turn.ensures in
    still_in_turn c.deref_mut.result.now c.args.pass.now c.take_turn-turn.result.pass.now c.number-caller.result c.args.done.kept (ap (λ (v : HubView _). v.story.basis) (c.deref_mut.ensures.value ∙ c.behind-turn.view_is ∙ c.value.ensures.value) ∙ t.basis) (ap (λ (v : HubView _). v.story.entries) (c.deref_mut.ensures.value ∙ c.behind-turn.view_is ∙ c.value.ensures.value) ∙ t.history) t.seen t.same.0 t.same.1 t.sound c.requires.kept c.requires.own
    c.number-caller.ensures.number (omega (arith, c.number-caller.type_inv))
