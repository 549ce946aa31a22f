use Rattle.std.proofs.Common.{[], ◌∷◌, ◌++◌, arith, sym, ap, ◌∙◌, subst}
use Rattle.type_store.specs.Views.{tables_in}
use Rattle.hub.specs.Bases.{basis_of}
use Rattle.hub.specs.Kept.{IsHub}
use Rattle.hub.specs.Stories.{entries_in}
use Rattle.hub.proofs.Adding.{all_bytes, is_add}
use Rattle.hub.proofs.Answering.{adds}
use Rattle.hub.proofs.Rooms.{has_place, has_room, in_view, no_deed, same_words}
use Rattle.hub.proofs.state.HubState.add.Goals as goal

pub invariant_of-self : goal.invariant_of-self
invariant_of-self g c = (same_words g.D.Device (basis_of g.D.Device c.self.inside.limits c.self.inside.opened.value (tables_in c.self.inside.first.value)) (tables_in c.self.inside.tables) c.self.inside.journal.words c.make_room.new.journal.words c.self.inside.journal.spare c.make_room.new.journal.spare c.self.inside.acked c.self.inside.last c.self.inside.file c.make_room.ensures.words c.make_room.ensures.spare c.self.invariant.0, c.self.invariant.1)

pub invariant_of-self-in-Some : goal.invariant_of-self-in-Some
invariant_of-self-in-Some g c =
    let made = adds g.D.Device (basis_of g.D.Device c.self.inside.limits c.self.inside.opened.value (tables_in c.self.inside.first.value)) (tables_in c.self.inside.tables) (tables_in c.add_to-reply.new.tables) c.self.inside.journal.words c.push.new.self.words c.args.caller c.args.kind c.args.bytes.now c.add_to-reply.result c.in-Some.deed c.self.inside.journal.spare c.push.new.self.spare c.self.inside.acked c.self.inside.last c.self.inside.file c.self.invariant.0
    (omega (arith, c.ranges.caller.fits)) (is_add c.args.kind c.args.bytes.now (all_bytes c.args.bytes.now (λ i. omega (arith, c.type_inv.bytes i))) c.requires.judged) (in_view c.add_to-reply.new.tables c.self.inside.tables c.add_to-reply.ensures) (sym c.in-Some.is ∙ c.deed_of_add.ensures.deed) c.in-Some.ensures.small (c.push.ensures.words ∙ ap (λ z. z ++ c.word_of.result ∷ []) c.make_room.ensures.words ∙ ap (λ w. c.self.inside.journal.words ++ w ∷ []) c.word_of.ensures) (has_place g.D.Device (basis_of g.D.Device c.self.inside.limits c.self.inside.opened.value (tables_in c.self.inside.first.value)) (tables_in c.self.inside.tables) c.self.inside.journal.words c.self.inside.journal.spare c.self.inside.acked c.self.inside.last c.from-open.result c.self.inside.file c.is_none.result c.self.invariant.0 c.is_none.ensures c.from-open.ensures c.in_ok-make_room.ensures.places) (has_room g.D.Device (basis_of g.D.Device c.self.inside.limits c.self.inside.opened.value (tables_in c.self.inside.first.value)) (entries_in (tables_in c.self.inside.tables) c.self.inside.journal.words) (tables_in c.self.inside.tables) c.self.inside.journal.spare c.self.inside.acked c.self.inside.last c.from-open.result c.make_room.new.journal.spare c.push.new.self.spare c.self.inside.file c.is_none.result c.self.invariant.0 c.is_none.ensures c.from-open.ensures c.in_ok-make_room.ensures.room c.push.ensures.spare) in
    (made.hub, c.self.invariant.1)

pub invariant_of-self-in-None : goal.invariant_of-self-in-None
invariant_of-self-in-None g c =
    let stays = no_deed (tables_in c.self.inside.tables) (tables_in c.add_to-reply.new.tables) c.args.kind c.args.bytes.now c.add_to-reply.result (in_view c.add_to-reply.new.tables c.self.inside.tables c.add_to-reply.ensures) (sym c.in-None.is ∙ c.deed_of_add.ensures.deed) in (
      subst (λ y. IsHub g.D.Device (basis_of g.D.Device c.self.inside.limits c.self.inside.opened.value (tables_in c.self.inside.first.value)) (entries_in y c.make_room.new.journal.words) y c.make_room.new.journal.spare c.self.inside.acked c.self.inside.last c.self.inside.file) (sym stays)
          (same_words g.D.Device (basis_of g.D.Device c.self.inside.limits c.self.inside.opened.value (tables_in c.self.inside.first.value)) (tables_in c.self.inside.tables) c.self.inside.journal.words c.make_room.new.journal.words c.self.inside.journal.spare c.make_room.new.journal.spare c.self.inside.acked c.self.inside.last c.self.inside.file c.make_room.ensures.words c.make_room.ensures.spare c.self.invariant.0),
      c.self.invariant.1,
    )

pub returns-in-Some-clause-filed : goal.returns-in-Some-clause-filed
returns-in-Some-clause-filed g c =
    let made = adds g.D.Device (basis_of g.D.Device c.self.inside.limits c.self.inside.opened.value (tables_in c.self.inside.first.value)) (tables_in c.self.inside.tables) (tables_in c.add_to-reply.new.tables) c.self.inside.journal.words c.push.new.self.words c.args.caller c.args.kind c.args.bytes.now c.add_to-reply.result c.in-Some.deed c.self.inside.journal.spare c.push.new.self.spare c.self.inside.acked c.self.inside.last c.self.inside.file c.self.invariant.0
    (omega (arith, c.ranges.caller.fits)) (is_add c.args.kind c.args.bytes.now (all_bytes c.args.bytes.now (λ i. omega (arith, c.type_inv.bytes i))) c.requires.judged) (in_view c.add_to-reply.new.tables c.self.inside.tables c.add_to-reply.ensures) (sym c.in-Some.is ∙ c.deed_of_add.ensures.deed) c.in-Some.ensures.small (c.push.ensures.words ∙ ap (λ z. z ++ c.word_of.result ∷ []) c.make_room.ensures.words ∙ ap (λ w. c.self.inside.journal.words ++ w ∷ []) c.word_of.ensures) (has_place g.D.Device (basis_of g.D.Device c.self.inside.limits c.self.inside.opened.value (tables_in c.self.inside.first.value)) (tables_in c.self.inside.tables) c.self.inside.journal.words c.self.inside.journal.spare c.self.inside.acked c.self.inside.last c.from-open.result c.self.inside.file c.is_none.result c.self.invariant.0 c.is_none.ensures c.from-open.ensures c.in_ok-make_room.ensures.places) (has_room g.D.Device (basis_of g.D.Device c.self.inside.limits c.self.inside.opened.value (tables_in c.self.inside.first.value)) (entries_in (tables_in c.self.inside.tables) c.self.inside.journal.words) (tables_in c.self.inside.tables) c.self.inside.journal.spare c.self.inside.acked c.self.inside.last c.from-open.result c.make_room.new.journal.spare c.push.new.self.spare c.self.inside.file c.is_none.result c.self.invariant.0 c.is_none.ensures c.from-open.ensures c.in_ok-make_room.ensures.room c.push.ensures.spare) in
    rw (← c.self.view_is) made.answers
