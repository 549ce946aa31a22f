use Rattle.std.proofs.Common.{[], ◌∷◌, ◌++◌, arith, refl, sym, ap, ◌∙◌, subst, None, ◌≢◌}
use Rattle.std.proofs.lemmas.List.{length-map}
use Rattle.type_store.specs.Views.{tables_in}
use Rattle.core_model.specs.History.{standing}
use Rattle.hub.specs.Bases.{basis_of}
use Rattle.hub.specs.Stories.{HubView, entries_in, entry_read, one_if_open}
use Rattle.hub.proofs.Beginning.{hinders, some_open}
use Rattle.hub.proofs.state.HubState.refuse.Goals as goal

pub invariant_of-self-2 : goal.invariant_of-self-2
invariant_of-self-2 g c =
    let k = some_open (basis_of g.D.Device c.self.inside.limits c.self.inside.opened.value (tables_in c.self.inside.first.value)) (entries_in (tables_in c.self.inside.tables) c.self.inside.journal.words) (subst (λ (v : HubView _). (standing v.story.basis v.story.entries).under_way ≢ None) (sym c.self.view_is) c.requires) in
    let made = hinders g.D.Device (basis_of g.D.Device c.self.inside.limits c.self.inside.opened.value (tables_in c.self.inside.first.value)) (tables_in c.self.inside.tables) c.self.inside.journal.words c.push.new.self.words c.args.caller c.self.inside.last k.0 c.self.inside.journal.spare c.push.new.self.spare c.self.inside.acked c.self.inside.last c.self.inside.file c.self.invariant.0 (omega (arith, c.ranges.caller.fits)) k.1 refl (c.push.ensures.words ∙ ap (λ z. z ++ c.word_of.result ∷ []) c.make_room.ensures.words ∙ ap (λ w. c.self.inside.journal.words ++ w ∷ []) c.word_of.ensures) (omega (arith, length-map c.self.inside.journal.words (entry_read (tables_in c.self.inside.tables)), ap one_if_open k.1, c.in_ok-make_room.ensures.places)) (omega (arith, c.in_ok-make_room.ensures.room, c.push.ensures.spare)) in
    (made.hub, c.self.invariant.1)

pub returns-clause-under_way : goal.returns-clause-under_way
returns-clause-under_way g c =
    let k = some_open (basis_of g.D.Device c.self.inside.limits c.self.inside.opened.value (tables_in c.self.inside.first.value)) (entries_in (tables_in c.self.inside.tables) c.self.inside.journal.words) (subst (λ (v : HubView _). (standing v.story.basis v.story.entries).under_way ≢ None) (sym c.self.view_is) c.requires) in
    let made = hinders g.D.Device (basis_of g.D.Device c.self.inside.limits c.self.inside.opened.value (tables_in c.self.inside.first.value)) (tables_in c.self.inside.tables) c.self.inside.journal.words c.push.new.self.words c.args.caller c.self.inside.last k.0 c.self.inside.journal.spare c.push.new.self.spare c.self.inside.acked c.self.inside.last c.self.inside.file c.self.invariant.0 (omega (arith, c.ranges.caller.fits)) k.1 refl (c.push.ensures.words ∙ ap (λ z. z ++ c.word_of.result ∷ []) c.make_room.ensures.words ∙ ap (λ w. c.self.inside.journal.words ++ w ∷ []) c.word_of.ensures) (omega (arith, length-map c.self.inside.journal.words (entry_read (tables_in c.self.inside.tables)), ap one_if_open k.1, c.in_ok-make_room.ensures.places)) (omega (arith, c.in_ok-make_room.ensures.room, c.push.ensures.spare)) in
    rw (← c.self.view_is) made.refuses
