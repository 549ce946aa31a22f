use Rattle.std.proofs.Common.{◌≡◌, ◌∙◌, sym, ap, subst}
use Rattle.turnstile.specs.Histories.{Begins}
use Rattle.turnstile.specs.Passes.{NoteView, PassView}
use Rattle.turnstile.proofs.Beginnings.{begins_on}
use Rattle.hub.specs.Ends.{AreEnded, IsFree}
use Rattle.hub.proofs.Finishing.{ended_added, ended_asked}
use Rattle.hub_scenes.proofs.Scenes.{seen_asked}
use Rattle.hub_scenes.proofs.meetings.get_what_was_met.Goals as goal

pub returns-in_err-index-clause-one : goal.returns-in_err-index-clause-one
returns-in_err-index-clause-one g c = (c.add_type.ensures.idle, ended_added c.add_type.ensures.reply c.requires.one.1)

pub returns-in_err-get_type-clause-one : goal.returns-in_err-get_type-clause-one
returns-in_err-get_type-clause-one g c = subst (IsFree c.args.hub.now) (sym c.note-note.ensures.same) (c.add_type.ensures.idle, ended_added c.add_type.ensures.reply c.requires.one.1)

pub returns-in_err-get_type-clause-two : goal.returns-in_err-get_type-clause-two
returns-in_err-get_type-clause-two g c = (c.get_type.ensures.idle, ended_asked c.get_type.ensures.reply (subst AreEnded (sym c.meet.ensures.same.1) c.requires.two.1))

pub returns-clause-one : goal.returns-clause-one
returns-clause-one g c = subst (IsFree c.args.hub.now) (sym c.note-note.ensures.same) (c.add_type.ensures.idle, ended_added c.add_type.ensures.reply c.requires.one.1)

pub returns-clause-two : goal.returns-clause-two
returns-clause-two g c = (c.get_type.ensures.idle, ended_asked c.get_type.ensures.reply (subst AreEnded (sym c.meet.ensures.same.1) c.requires.two.1))

pub returns-clause-met : goal.returns-clause-met
returns-clause-met g c =
    let note : c.note-note.result.seen ≡ c.note-note.new.pass.seen = ap (λ (n : NoteView). n.seen) c.note-note.ensures.note ∙ sym (ap (λ (p : PassView). p.seen) c.note-note.ensures.same) in
    begins_on c.note-note.new.pass.seen c.meet.new.pass.seen c.get_type.new.pass.seen (subst (λ seen. Begins seen c.meet.new.pass.seen) note c.meet.ensures.met) (seen_asked c.get_type.ensures.reply)
