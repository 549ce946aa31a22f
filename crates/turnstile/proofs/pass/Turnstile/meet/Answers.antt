use Rattle.std.proofs.Common.{arith, ap, sym, ◌∙◌}
use Rattle.atomic_table.specs.Table.{Me}
use Rattle.turnstile.specs.Passes.{PassView, NoteView}
use Rattle.turnstile.proofs.Passing.{idle_is}
use Rattle.turnstile.proofs.Tellings.{joins_note}
use Rattle.turnstile.proofs.pass.Turnstile.meet.Goals as goal

pub join_seat-requires : goal.join_seat-requires
join_seat-requires g c = (
  ap (λ (p : PassView). p.turnstile) c.pass.view_is ∙ c.requires.idle.0 ∙ sym c.self.view_is,
  ap (λ (n : NoteView). n.turnstile) c.note.view_is ∙ c.requires.note ∙ sym c.self.view_is,
  c.note.invariant.empty,
  omega arith,
  joins_note g.V.Historied.basis g.V.Historied.entries g.V.Historied.law _ _ _ _ _ _ c.pass.invariant.role
      (idle_is _ (ap (λ (p : PassView). p.idle) c.pass.view_is ∙ c.requires.idle.1)) c.note.invariant.role c.note.invariant.idle,
)

pub sight-requires-clause-pass : goal.sight-requires-clause-pass
sight-requires-clause-pass g c = (_, ap (λ (m : Me _ _). m.0.role) c.join_seat.ensures.2 ∙ c.pass.invariant.role)
