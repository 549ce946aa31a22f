use Rattle.std.proofs.Common.{[], ◌∷◌, ◌++◌, arith, sym, ap, ◌∙◌, subst, Some}
use Rattle.std.proofs.lemmas.List.{length-map}
use Rattle.type_store.specs.Views.{tables_in}
use Rattle.hub.specs.Bases.{basis_of}
use Rattle.hub.specs.Kept.{IsHub}
use Rattle.hub.specs.Stories.{HubView, entries_in, entry_read, one_if_open}
use Rattle.hub.proofs.Beginning.{begins, home}
use Rattle.hub.proofs.Opening.{book_kept}
use Rattle.hub.proofs.Rooms.{same_words}
use Rattle.hub.proofs.state.HubState.begin.Goals as goal

pub invariant_of-self : goal.invariant_of-self
invariant_of-self g c = (same_words g.D.Device (basis_of g.D.Device c.self.inside.limits c.self.inside.opened.value (tables_in c.self.inside.first.value)) (tables_in c.self.inside.tables) c.self.inside.journal.words c.make_room.new.journal.words c.self.inside.journal.spare c.make_room.new.journal.spare c.self.inside.acked c.self.inside.last c.self.inside.file c.make_room.ensures.words c.make_room.ensures.spare c.self.invariant.0, c.self.invariant.1)

pub prepare-requires-clause-bounds : goal.prepare-requires-clause-bounds
prepare-requires-clause-bounds g c = (book_kept g.D.Device (basis_of g.D.Device c.self.inside.limits c.self.inside.opened.value (tables_in c.self.inside.first.value)) (entries_in (tables_in c.self.inside.tables) c.self.inside.journal.words) (tables_in c.self.inside.tables) c.self.inside.journal.spare c.self.inside.acked c.self.inside.last c.self.inside.file c.self.invariant.0 c.unwrap-file.result (sym c.take.ensures.value ∙ c.unwrap-file.ensures)).bounds

pub invariant_of-self-in-Ok : goal.invariant_of-self-in-Ok
invariant_of-self-in-Ok g c =
    let made = begins g.D.Device (basis_of g.D.Device c.self.inside.limits c.self.inside.opened.value (tables_in c.self.inside.first.value)) (tables_in c.self.inside.tables) c.self.inside.journal.words c.push.new.self.words c.args.caller c.number-self-inside.result c.self.inside.journal.spare c.push.new.self.spare c.self.inside.acked c.self.inside.last c.unwrap-file.result c.in-Ok.pending (home g.D.Device (basis_of g.D.Device c.self.inside.limits c.self.inside.opened.value (tables_in c.self.inside.first.value)) (entries_in (tables_in c.self.inside.tables) c.self.inside.journal.words) (tables_in c.self.inside.tables) c.self.inside.journal.spare c.self.inside.acked c.self.inside.last c.self.inside.file c.unwrap-file.result c.self.invariant.0 (sym c.take.ensures.value ∙ c.unwrap-file.ensures)) (omega (arith, c.ranges.caller.fits)) c.in-Ok.ensures.ok.0 c.in-Ok.ensures.may_begin c.number-self-inside.ensures (c.push.ensures.words ∙ ap (λ z. z ++ c.word_of.result ∷ []) c.make_room.ensures.words ∙ ap (λ w. c.self.inside.journal.words ++ w ∷ []) c.word_of.ensures) (omega (arith, length-map c.self.inside.journal.words (entry_read (tables_in c.self.inside.tables)), ap one_if_open (home g.D.Device (basis_of g.D.Device c.self.inside.limits c.self.inside.opened.value (tables_in c.self.inside.first.value)) (entries_in (tables_in c.self.inside.tables) c.self.inside.journal.words) (tables_in c.self.inside.tables) c.self.inside.journal.spare c.self.inside.acked c.self.inside.last c.self.inside.file c.unwrap-file.result c.self.invariant.0 (sym c.take.ensures.value ∙ c.unwrap-file.ensures)).shelved.0, c.in_ok-make_room.ensures.places)) (omega (arith, c.in_ok-make_room.ensures.room, c.push.ensures.spare)) in
    (rw c.take.ensures.after made.hub, c.self.invariant.1)

pub invariant_of-result : goal.invariant_of-result
invariant_of-result g c =
    let made = begins g.D.Device (basis_of g.D.Device c.self.inside.limits c.self.inside.opened.value (tables_in c.self.inside.first.value)) (tables_in c.self.inside.tables) c.self.inside.journal.words c.push.new.self.words c.args.caller c.number-self-inside.result c.self.inside.journal.spare c.push.new.self.spare c.self.inside.acked c.self.inside.last c.unwrap-file.result c.in-Ok.pending (home g.D.Device (basis_of g.D.Device c.self.inside.limits c.self.inside.opened.value (tables_in c.self.inside.first.value)) (entries_in (tables_in c.self.inside.tables) c.self.inside.journal.words) (tables_in c.self.inside.tables) c.self.inside.journal.spare c.self.inside.acked c.self.inside.last c.self.inside.file c.unwrap-file.result c.self.invariant.0 (sym c.take.ensures.value ∙ c.unwrap-file.ensures)) (omega (arith, c.ranges.caller.fits)) c.in-Ok.ensures.ok.0 c.in-Ok.ensures.may_begin c.number-self-inside.ensures (c.push.ensures.words ∙ ap (λ z. z ++ c.word_of.result ∷ []) c.make_room.ensures.words ∙ ap (λ w. c.self.inside.journal.words ++ w ∷ []) c.word_of.ensures) (omega (arith, length-map c.self.inside.journal.words (entry_read (tables_in c.self.inside.tables)), ap one_if_open (home g.D.Device (basis_of g.D.Device c.self.inside.limits c.self.inside.opened.value (tables_in c.self.inside.first.value)) (entries_in (tables_in c.self.inside.tables) c.self.inside.journal.words) (tables_in c.self.inside.tables) c.self.inside.journal.spare c.self.inside.acked c.self.inside.last c.self.inside.file c.unwrap-file.result c.self.invariant.0 (sym c.take.ensures.value ∙ c.unwrap-file.ensures)).shelved.0, c.in_ok-make_room.ensures.places)) (omega (arith, c.in_ok-make_room.ensures.room, c.push.ensures.spare)) in
    rw (c.of-kept.ensures, c.in-Ok.ensures.ok.1) made.out

pub invariant_of-self-in-Err : goal.invariant_of-self-in-Err
invariant_of-self-in-Err g c =
    let back = c.put.ensures ∙ ap Some c.in-Err.ensures.err ∙ sym (sym c.take.ensures.value ∙ c.unwrap-file.ensures) in (
      subst (λ f. IsHub g.D.Device (basis_of g.D.Device c.self.inside.limits c.self.inside.opened.value (tables_in c.self.inside.first.value)) (entries_in (tables_in c.self.inside.tables) c.make_room.new.journal.words) (tables_in c.self.inside.tables) c.make_room.new.journal.spare c.self.inside.acked c.self.inside.last f) (sym back)
          (same_words g.D.Device (basis_of g.D.Device c.self.inside.limits c.self.inside.opened.value (tables_in c.self.inside.first.value)) (tables_in c.self.inside.tables) c.self.inside.journal.words c.make_room.new.journal.words c.self.inside.journal.spare c.make_room.new.journal.spare c.self.inside.acked c.self.inside.last c.self.inside.file c.make_room.ensures.words c.make_room.ensures.spare c.self.invariant.0),
      c.self.invariant.1,
    )

pub returns-in-Ok-clause-begun : goal.returns-in-Ok-clause-begun
returns-in-Ok-clause-begun g c =
    let made = begins g.D.Device (basis_of g.D.Device c.self.inside.limits c.self.inside.opened.value (tables_in c.self.inside.first.value)) (tables_in c.self.inside.tables) c.self.inside.journal.words c.push.new.self.words c.args.caller c.number-self-inside.result c.self.inside.journal.spare c.push.new.self.spare c.self.inside.acked c.self.inside.last c.unwrap-file.result c.in-Ok.pending (home g.D.Device (basis_of g.D.Device c.self.inside.limits c.self.inside.opened.value (tables_in c.self.inside.first.value)) (entries_in (tables_in c.self.inside.tables) c.self.inside.journal.words) (tables_in c.self.inside.tables) c.self.inside.journal.spare c.self.inside.acked c.self.inside.last c.self.inside.file c.unwrap-file.result c.self.invariant.0 (sym c.take.ensures.value ∙ c.unwrap-file.ensures)) (omega (arith, c.ranges.caller.fits)) c.in-Ok.ensures.ok.0 c.in-Ok.ensures.may_begin c.number-self-inside.ensures (c.push.ensures.words ∙ ap (λ z. z ++ c.word_of.result ∷ []) c.make_room.ensures.words ∙ ap (λ w. c.self.inside.journal.words ++ w ∷ []) c.word_of.ensures) (omega (arith, length-map c.self.inside.journal.words (entry_read (tables_in c.self.inside.tables)), ap one_if_open (home g.D.Device (basis_of g.D.Device c.self.inside.limits c.self.inside.opened.value (tables_in c.self.inside.first.value)) (entries_in (tables_in c.self.inside.tables) c.self.inside.journal.words) (tables_in c.self.inside.tables) c.self.inside.journal.spare c.self.inside.acked c.self.inside.last c.self.inside.file c.unwrap-file.result c.self.invariant.0 (sym c.take.ensures.value ∙ c.unwrap-file.ensures)).shelved.0, c.in_ok-make_room.ensures.places)) (omega (arith, c.in_ok-make_room.ensures.room, c.push.ensures.spare)) in
    (rw (← c.self.view_is) made.begins, ap (λ (v : HubView _). v.story.basis) c.of-kept.ensures, ap (λ (v : HubView _). v.story.entries) c.of-kept.ensures)
