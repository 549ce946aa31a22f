use Rattle.std.proofs.Common.{[], ◌∷◌, ◌++◌, arith, sym, ap, ◌∙◌, subst, Some}
use Rattle.std.specs.Prelude.{not}
use Rattle.call_journal.specs.declared.deed.Deed.TheVariants.{Ended}
use Rattle.type_store.specs.Views.{tables_in}
use Rattle.core_model.specs.Entries.{entry_of}
use Rattle.hub.specs.Bases.{basis_of}
use Rattle.hub.specs.Calls.{Files}
use Rattle.hub.specs.Kept.{IsHub}
use Rattle.hub.specs.Passes.{DoneView}
use Rattle.hub.specs.Stories.{HubView, entries_in}
use Rattle.hub.proofs.Answering.{story_at}
use Rattle.hub.proofs.Ending.{acked_behind, done_at, ends, number_there, reply_failed, reply_written, still_at}
use Rattle.hub.proofs.state.HubState.end.Goals as goal

pub invariant_of-self : goal.invariant_of-self
invariant_of-self g c =
    let basis = ap (λ (v : DoneView _). v.basis) c.done.view_is ∙ c.requires.basis ∙ ap (λ (v : HubView _). v.story.basis) (sym c.self.view_is) in
    let done = done_at g.D.Device c.done.inside.kept.value.story.basis (basis_of g.D.Device c.self.inside.limits c.self.inside.opened.value (tables_in c.self.inside.first.value)) c.done.inside.kept.value.story.entries c.done.inside.number c.done.inside.failed c.done.inside.file basis c.done.invariant in
    let still = still_at c.args.self.now.story.basis (basis_of g.D.Device c.self.inside.limits c.self.inside.opened.value (tables_in c.self.inside.first.value)) c.args.caller c.args.done.kept c.done.inside.kept.value.story.entries c.args.self.now.story.entries (entries_in (tables_in c.self.inside.tables) c.self.inside.journal.words) (ap (λ (v : HubView _). v.story.basis) (sym c.self.view_is)) (ap (λ (v : DoneView _). v.kept) (sym c.done.view_is)) (ap (λ (v : HubView _). v.story.entries) (sym c.self.view_is)) c.requires.still in
    let over = ends g.D.Device (basis_of g.D.Device c.self.inside.limits c.self.inside.opened.value (tables_in c.self.inside.first.value)) (tables_in c.self.inside.tables) c.self.inside.journal.words c.push.new.self.words c.args.caller c.done.inside.number c.done.inside.failed c.done.inside.kept.value.story.entries c.self.inside.journal.spare c.push.new.self.spare c.self.inside.acked c.self.inside.last c.self.inside.file c.done.inside.file c.self.invariant.0 (omega (arith, c.ranges.caller.fits)) done still (c.push.ensures.words ∙ ap (λ w. c.self.inside.journal.words ++ w ∷ []) c.word_of.ensures) in
    let number = number_there g.D.Device c.done.inside.kept.value.story.basis c.done.inside.kept.value.story.entries c.done.inside.number c.done.inside.failed c.done.inside.file c.done.invariant in (
      subst (λ f. IsHub g.D.Device (basis_of g.D.Device c.self.inside.limits c.self.inside.opened.value (tables_in c.self.inside.first.value)) (entries_in (tables_in c.self.inside.tables) c.push.new.self.words) (tables_in c.self.inside.tables) c.push.new.self.spare c.self.inside.acked c.self.inside.last f) (sym c.put.ensures)
          (subst (λ t. IsHub g.D.Device (basis_of g.D.Device c.self.inside.limits c.self.inside.opened.value (tables_in c.self.inside.first.value)) (entries_in (tables_in c.self.inside.tables) c.push.new.self.words) (tables_in c.self.inside.tables) c.push.new.self.spare (acked_behind t c.done.inside.number c.self.inside.acked) c.self.inside.last (Some c.done.inside.file)) c.if-failed.true over.hub),
      c.self.invariant.1,
    )

pub returns-then-failed-clause-filed : goal.returns-then-failed-clause-filed
returns-then-failed-clause-filed g c =
    let basis = ap (λ (v : DoneView _). v.basis) c.done.view_is ∙ c.requires.basis ∙ ap (λ (v : HubView _). v.story.basis) (sym c.self.view_is) in
    let done = done_at g.D.Device c.done.inside.kept.value.story.basis (basis_of g.D.Device c.self.inside.limits c.self.inside.opened.value (tables_in c.self.inside.first.value)) c.done.inside.kept.value.story.entries c.done.inside.number c.done.inside.failed c.done.inside.file basis c.done.invariant in
    let still = still_at c.args.self.now.story.basis (basis_of g.D.Device c.self.inside.limits c.self.inside.opened.value (tables_in c.self.inside.first.value)) c.args.caller c.args.done.kept c.done.inside.kept.value.story.entries c.args.self.now.story.entries (entries_in (tables_in c.self.inside.tables) c.self.inside.journal.words) (ap (λ (v : HubView _). v.story.basis) (sym c.self.view_is)) (ap (λ (v : DoneView _). v.kept) (sym c.done.view_is)) (ap (λ (v : HubView _). v.story.entries) (sym c.self.view_is)) c.requires.still in
    let over = ends g.D.Device (basis_of g.D.Device c.self.inside.limits c.self.inside.opened.value (tables_in c.self.inside.first.value)) (tables_in c.self.inside.tables) c.self.inside.journal.words c.push.new.self.words c.args.caller c.done.inside.number c.done.inside.failed c.done.inside.kept.value.story.entries c.self.inside.journal.spare c.push.new.self.spare c.self.inside.acked c.self.inside.last c.self.inside.file c.done.inside.file c.self.invariant.0 (omega (arith, c.ranges.caller.fits)) done still (c.push.ensures.words ∙ ap (λ w. c.self.inside.journal.words ++ w ∷ []) c.word_of.ensures) in
    let number = number_there g.D.Device c.done.inside.kept.value.story.basis c.done.inside.kept.value.story.entries c.done.inside.number c.done.inside.failed c.done.inside.file c.done.invariant in
    rw (← c.self.view_is, ← c.done.view_is) (subst (λ n. Files (story_at (basis_of g.D.Device c.self.inside.limits c.self.inside.opened.value (tables_in c.self.inside.first.value)) (entries_in (tables_in c.self.inside.tables) c.self.inside.journal.words)) (story_at (basis_of g.D.Device c.self.inside.limits c.self.inside.opened.value (tables_in c.self.inside.first.value)) (entries_in (tables_in c.self.inside.tables) c.push.new.self.words)) c.args.caller (entry_of c.args.caller (Ended n (not c.done.inside.failed)) [])) number over.filed)

pub returns-then-failed-clause-reply : goal.returns-then-failed-clause-reply
returns-then-failed-clause-reply g c =
    let number = number_there g.D.Device c.done.inside.kept.value.story.basis c.done.inside.kept.value.story.entries c.done.inside.number c.done.inside.failed c.done.inside.file c.done.invariant in
    rw (← c.done.view_is) (reply_failed c.done.inside.failed c.done.inside.number _ number c.if-failed.true)

pub invariant_of-self-2 : goal.invariant_of-self-2
invariant_of-self-2 g c =
    let basis = ap (λ (v : DoneView _). v.basis) c.done.view_is ∙ c.requires.basis ∙ ap (λ (v : HubView _). v.story.basis) (sym c.self.view_is) in
    let done = done_at g.D.Device c.done.inside.kept.value.story.basis (basis_of g.D.Device c.self.inside.limits c.self.inside.opened.value (tables_in c.self.inside.first.value)) c.done.inside.kept.value.story.entries c.done.inside.number c.done.inside.failed c.done.inside.file basis c.done.invariant in
    let still = still_at c.args.self.now.story.basis (basis_of g.D.Device c.self.inside.limits c.self.inside.opened.value (tables_in c.self.inside.first.value)) c.args.caller c.args.done.kept c.done.inside.kept.value.story.entries c.args.self.now.story.entries (entries_in (tables_in c.self.inside.tables) c.self.inside.journal.words) (ap (λ (v : HubView _). v.story.basis) (sym c.self.view_is)) (ap (λ (v : DoneView _). v.kept) (sym c.done.view_is)) (ap (λ (v : HubView _). v.story.entries) (sym c.self.view_is)) c.requires.still in
    let over = ends g.D.Device (basis_of g.D.Device c.self.inside.limits c.self.inside.opened.value (tables_in c.self.inside.first.value)) (tables_in c.self.inside.tables) c.self.inside.journal.words c.push.new.self.words c.args.caller c.done.inside.number c.done.inside.failed c.done.inside.kept.value.story.entries c.self.inside.journal.spare c.push.new.self.spare c.self.inside.acked c.self.inside.last c.self.inside.file c.done.inside.file c.self.invariant.0 (omega (arith, c.ranges.caller.fits)) done still (c.push.ensures.words ∙ ap (λ w. c.self.inside.journal.words ++ w ∷ []) c.word_of.ensures) in
    let number = number_there g.D.Device c.done.inside.kept.value.story.basis c.done.inside.kept.value.story.entries c.done.inside.number c.done.inside.failed c.done.inside.file c.done.invariant in (
      subst (λ f. IsHub g.D.Device (basis_of g.D.Device c.self.inside.limits c.self.inside.opened.value (tables_in c.self.inside.first.value)) (entries_in (tables_in c.self.inside.tables) c.push.new.self.words) (tables_in c.self.inside.tables) c.push.new.self.spare c.done.inside.number c.self.inside.last f) (sym c.put.ensures)
          (subst (λ t. IsHub g.D.Device (basis_of g.D.Device c.self.inside.limits c.self.inside.opened.value (tables_in c.self.inside.first.value)) (entries_in (tables_in c.self.inside.tables) c.push.new.self.words) (tables_in c.self.inside.tables) c.push.new.self.spare (acked_behind t c.done.inside.number c.self.inside.acked) c.self.inside.last (Some c.done.inside.file)) c.if-failed.false over.hub),
      c.self.invariant.1,
    )

pub returns-clause-filed : goal.returns-clause-filed
returns-clause-filed g c =
    let basis = ap (λ (v : DoneView _). v.basis) c.done.view_is ∙ c.requires.basis ∙ ap (λ (v : HubView _). v.story.basis) (sym c.self.view_is) in
    let done = done_at g.D.Device c.done.inside.kept.value.story.basis (basis_of g.D.Device c.self.inside.limits c.self.inside.opened.value (tables_in c.self.inside.first.value)) c.done.inside.kept.value.story.entries c.done.inside.number c.done.inside.failed c.done.inside.file basis c.done.invariant in
    let still = still_at c.args.self.now.story.basis (basis_of g.D.Device c.self.inside.limits c.self.inside.opened.value (tables_in c.self.inside.first.value)) c.args.caller c.args.done.kept c.done.inside.kept.value.story.entries c.args.self.now.story.entries (entries_in (tables_in c.self.inside.tables) c.self.inside.journal.words) (ap (λ (v : HubView _). v.story.basis) (sym c.self.view_is)) (ap (λ (v : DoneView _). v.kept) (sym c.done.view_is)) (ap (λ (v : HubView _). v.story.entries) (sym c.self.view_is)) c.requires.still in
    let over = ends g.D.Device (basis_of g.D.Device c.self.inside.limits c.self.inside.opened.value (tables_in c.self.inside.first.value)) (tables_in c.self.inside.tables) c.self.inside.journal.words c.push.new.self.words c.args.caller c.done.inside.number c.done.inside.failed c.done.inside.kept.value.story.entries c.self.inside.journal.spare c.push.new.self.spare c.self.inside.acked c.self.inside.last c.self.inside.file c.done.inside.file c.self.invariant.0 (omega (arith, c.ranges.caller.fits)) done still (c.push.ensures.words ∙ ap (λ w. c.self.inside.journal.words ++ w ∷ []) c.word_of.ensures) in
    let number = number_there g.D.Device c.done.inside.kept.value.story.basis c.done.inside.kept.value.story.entries c.done.inside.number c.done.inside.failed c.done.inside.file c.done.invariant in
    rw (← c.self.view_is, ← c.done.view_is) (subst (λ n. Files (story_at (basis_of g.D.Device c.self.inside.limits c.self.inside.opened.value (tables_in c.self.inside.first.value)) (entries_in (tables_in c.self.inside.tables) c.self.inside.journal.words)) (story_at (basis_of g.D.Device c.self.inside.limits c.self.inside.opened.value (tables_in c.self.inside.first.value)) (entries_in (tables_in c.self.inside.tables) c.push.new.self.words)) c.args.caller (entry_of c.args.caller (Ended n (not c.done.inside.failed)) [])) number over.filed)

pub returns-clause-reply : goal.returns-clause-reply
returns-clause-reply g c =
    let number = number_there g.D.Device c.done.inside.kept.value.story.basis c.done.inside.kept.value.story.entries c.done.inside.number c.done.inside.failed c.done.inside.file c.done.invariant in
    rw (← c.done.view_is) (reply_written c.done.inside.failed c.done.inside.number _ number c.if-failed.false)
