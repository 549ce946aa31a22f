use Rattle.std.proofs.Common.{[], ◌∷◌, ◌++◌, arith, ap, ◌∙◌}
use Rattle.type_store.specs.Views.{tables_in}
use Rattle.hub.specs.Bases.{basis_of}
use Rattle.hub.specs.Calls.{answer_of_get}
use Rattle.hub.specs.Stories.{entries_in}
use Rattle.hub.proofs.Answering.{gets}
use Rattle.hub.proofs.Rooms.{has_place, has_room, same_words}
use Rattle.hub.proofs.state.HubState.get.Goals as goal

pub invariant_of-self : goal.invariant_of-self
invariant_of-self g c = (same_words g.D.Device (basis_of g.D.Device c.self.inside.limits c.self.inside.opened.value (tables_in c.self.inside.first.value)) (tables_in c.self.inside.tables) c.self.inside.journal.words c.make_room.new.journal.words c.self.inside.journal.spare c.make_room.new.journal.spare c.self.inside.acked c.self.inside.last c.self.inside.file c.make_room.ensures.words c.make_room.ensures.spare c.self.invariant.0, c.self.invariant.1)

pub invariant_of-self-2 : goal.invariant_of-self-2
invariant_of-self-2 g c =
    let made = gets g.D.Device (basis_of g.D.Device c.self.inside.limits c.self.inside.opened.value (tables_in c.self.inside.first.value)) (tables_in c.self.inside.tables) c.self.inside.journal.words c.push.new.self.words c.args.caller c.args.kind c.args.at (answer_of_get c.hand_out.result c.args.out.now c.hand_out.new.out) c.self.inside.journal.spare c.push.new.self.spare c.self.inside.acked c.self.inside.last c.self.inside.file c.self.invariant.0
    (omega (arith, c.ranges.caller.fits)) (omega (arith, c.ranges.at.fits)) c.hand_out.ensures.answer (c.push.ensures.words ∙ ap (λ z. z ++ c.word_of.result ∷ []) c.make_room.ensures.words ∙ ap (λ w. c.self.inside.journal.words ++ w ∷ []) c.word_of.ensures) (has_place g.D.Device (basis_of g.D.Device c.self.inside.limits c.self.inside.opened.value (tables_in c.self.inside.first.value)) (tables_in c.self.inside.tables) c.self.inside.journal.words c.self.inside.journal.spare c.self.inside.acked c.self.inside.last c.from-open.result c.self.inside.file c.is_none.result c.self.invariant.0 c.is_none.ensures c.from-open.ensures c.in_ok-make_room.ensures.places) (has_room g.D.Device (basis_of g.D.Device c.self.inside.limits c.self.inside.opened.value (tables_in c.self.inside.first.value)) (entries_in (tables_in c.self.inside.tables) c.self.inside.journal.words) (tables_in c.self.inside.tables) c.self.inside.journal.spare c.self.inside.acked c.self.inside.last c.from-open.result c.make_room.new.journal.spare c.push.new.self.spare c.self.inside.file c.is_none.result c.self.invariant.0 c.is_none.ensures c.from-open.ensures c.in_ok-make_room.ensures.room c.push.ensures.spare) in
    (made.hub, c.self.invariant.1)

pub returns-clause-filed : goal.returns-clause-filed
returns-clause-filed g c =
    let made = gets g.D.Device (basis_of g.D.Device c.self.inside.limits c.self.inside.opened.value (tables_in c.self.inside.first.value)) (tables_in c.self.inside.tables) c.self.inside.journal.words c.push.new.self.words c.args.caller c.args.kind c.args.at (answer_of_get c.hand_out.result c.args.out.now c.hand_out.new.out) c.self.inside.journal.spare c.push.new.self.spare c.self.inside.acked c.self.inside.last c.self.inside.file c.self.invariant.0
    (omega (arith, c.ranges.caller.fits)) (omega (arith, c.ranges.at.fits)) c.hand_out.ensures.answer (c.push.ensures.words ∙ ap (λ z. z ++ c.word_of.result ∷ []) c.make_room.ensures.words ∙ ap (λ w. c.self.inside.journal.words ++ w ∷ []) c.word_of.ensures) (has_place g.D.Device (basis_of g.D.Device c.self.inside.limits c.self.inside.opened.value (tables_in c.self.inside.first.value)) (tables_in c.self.inside.tables) c.self.inside.journal.words c.self.inside.journal.spare c.self.inside.acked c.self.inside.last c.from-open.result c.self.inside.file c.is_none.result c.self.invariant.0 c.is_none.ensures c.from-open.ensures c.in_ok-make_room.ensures.places) (has_room g.D.Device (basis_of g.D.Device c.self.inside.limits c.self.inside.opened.value (tables_in c.self.inside.first.value)) (entries_in (tables_in c.self.inside.tables) c.self.inside.journal.words) (tables_in c.self.inside.tables) c.self.inside.journal.spare c.self.inside.acked c.self.inside.last c.from-open.result c.make_room.new.journal.spare c.push.new.self.spare c.self.inside.file c.is_none.result c.self.invariant.0 c.is_none.ensures c.from-open.ensures c.in_ok-make_room.ensures.room c.push.ensures.spare) in
    rw (← c.self.view_is) made.answers
