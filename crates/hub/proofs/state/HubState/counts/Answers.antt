use Rattle.std.proofs.Common.{[], ◌∷◌, ◌++◌, arith, ap, ◌∙◌, Ok}
use Rattle.type_store.specs.Views.{tables_in}
use Rattle.hub.specs.Bases.{basis_of}
use Rattle.table_model.specs.declared.call.Outcome.TheVariants as outcome
use Rattle.hub.specs.Stories.{entries_in}
use Rattle.hub.proofs.Answering.{counted, counts_are}
use Rattle.hub.proofs.Rooms.{has_place, has_room, same_words}
use Rattle.hub.proofs.state.HubState.counts.Goals as goal

pub invariant_of-self : goal.invariant_of-self
invariant_of-self g c = (same_words g.D.Device (basis_of g.D.Device c.self.inside.limits c.self.inside.opened.value (tables_in c.self.inside.first.value)) (tables_in c.self.inside.tables) c.self.inside.journal.words c.make_room.new.journal.words c.self.inside.journal.spare c.make_room.new.journal.spare c.self.inside.acked c.self.inside.last c.self.inside.file c.make_room.ensures.words c.make_room.ensures.spare c.self.invariant.0, c.self.invariant.1)

pub invariant_of-self-2 : goal.invariant_of-self-2
invariant_of-self-2 g c =
    let made = counted g.D.Device (basis_of g.D.Device c.self.inside.limits c.self.inside.opened.value (tables_in c.self.inside.first.value)) (tables_in c.self.inside.tables) c.self.inside.journal.words c.push.new.self.words c.args.caller (Ok (outcome.Counts c.counts_of.result.types c.counts_of.result.items c.counts_of.result.names)) c.self.inside.journal.spare c.push.new.self.spare c.self.inside.acked c.self.inside.last c.self.inside.file c.self.invariant.0
    (omega (arith, c.ranges.caller.fits)) (counts_are c.counts_of.result.types c.counts_of.result.items c.counts_of.result.names (tables_in c.self.inside.tables) c.counts_of.ensures.types c.counts_of.ensures.items c.counts_of.ensures.names) (c.push.ensures.words ∙ ap (λ z. z ++ c.word_of.result ∷ []) c.make_room.ensures.words ∙ ap (λ w. c.self.inside.journal.words ++ w ∷ []) c.word_of.ensures) (has_place g.D.Device (basis_of g.D.Device c.self.inside.limits c.self.inside.opened.value (tables_in c.self.inside.first.value)) (tables_in c.self.inside.tables) c.self.inside.journal.words c.self.inside.journal.spare c.self.inside.acked c.self.inside.last c.from-open.result c.self.inside.file c.is_none.result c.self.invariant.0 c.is_none.ensures c.from-open.ensures c.in_ok-make_room.ensures.places) (has_room g.D.Device (basis_of g.D.Device c.self.inside.limits c.self.inside.opened.value (tables_in c.self.inside.first.value)) (entries_in (tables_in c.self.inside.tables) c.self.inside.journal.words) (tables_in c.self.inside.tables) c.self.inside.journal.spare c.self.inside.acked c.self.inside.last c.from-open.result c.make_room.new.journal.spare c.push.new.self.spare c.self.inside.file c.is_none.result c.self.invariant.0 c.is_none.ensures c.from-open.ensures c.in_ok-make_room.ensures.room c.push.ensures.spare) in
    (made.hub, c.self.invariant.1)

pub returns-clause-filed : goal.returns-clause-filed
returns-clause-filed g c =
    let made = counted g.D.Device (basis_of g.D.Device c.self.inside.limits c.self.inside.opened.value (tables_in c.self.inside.first.value)) (tables_in c.self.inside.tables) c.self.inside.journal.words c.push.new.self.words c.args.caller (Ok (outcome.Counts c.counts_of.result.types c.counts_of.result.items c.counts_of.result.names)) c.self.inside.journal.spare c.push.new.self.spare c.self.inside.acked c.self.inside.last c.self.inside.file c.self.invariant.0
    (omega (arith, c.ranges.caller.fits)) (counts_are c.counts_of.result.types c.counts_of.result.items c.counts_of.result.names (tables_in c.self.inside.tables) c.counts_of.ensures.types c.counts_of.ensures.items c.counts_of.ensures.names) (c.push.ensures.words ∙ ap (λ z. z ++ c.word_of.result ∷ []) c.make_room.ensures.words ∙ ap (λ w. c.self.inside.journal.words ++ w ∷ []) c.word_of.ensures) (has_place g.D.Device (basis_of g.D.Device c.self.inside.limits c.self.inside.opened.value (tables_in c.self.inside.first.value)) (tables_in c.self.inside.tables) c.self.inside.journal.words c.self.inside.journal.spare c.self.inside.acked c.self.inside.last c.from-open.result c.self.inside.file c.is_none.result c.self.invariant.0 c.is_none.ensures c.from-open.ensures c.in_ok-make_room.ensures.places) (has_room g.D.Device (basis_of g.D.Device c.self.inside.limits c.self.inside.opened.value (tables_in c.self.inside.first.value)) (entries_in (tables_in c.self.inside.tables) c.self.inside.journal.words) (tables_in c.self.inside.tables) c.self.inside.journal.spare c.self.inside.acked c.self.inside.last c.from-open.result c.make_room.new.journal.spare c.push.new.self.spare c.self.inside.file c.is_none.result c.self.invariant.0 c.is_none.ensures c.from-open.ensures c.in_ok-make_room.ensures.room c.push.ensures.spare) in
    rw (← c.self.view_is) made.answers
