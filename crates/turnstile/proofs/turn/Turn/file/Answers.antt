use Rattle.std.proofs.Common.{[], ◌∷◌, ◌++◌, ap, sym, ◌∙◌}
use Rattle.turnstile.specs.Passes.{PassView}
use Rattle.turnstile.proofs.Passing.{files_as}
use Rattle.turnstile.proofs.turn.Turn.file.Goals as goal

pub invariant_of-pass : goal.invariant_of-pass
invariant_of-pass g c =
    files_as g.V.Historied.law _ _ _ _ _ _ _ c.requires.entry.0 _ _ c.pass.invariant c.announce.ensures.seat.0
    (c.announce.ensures.filed c.requires.entry.0 (c.requires.entry.1 ∙ ap (λ (p : PassView). p.seen ++ c.requires.entry.0 ∷ []) (sym c.pass.view_is)))
    c.pass.view_is c.requires.basis c.requires.entry.1 c.requires.entry.2 c.announce.ensures.lawful

pub returns-clause-sound : goal.returns-clause-sound
returns-clause-sound g c =
    (files_as g.V.Historied.law _ _ _ _ _ _ _ c.requires.entry.0 _ _ c.pass.invariant c.announce.ensures.seat.0
    (c.announce.ensures.filed c.requires.entry.0 (c.requires.entry.1 ∙ ap (λ (p : PassView). p.seen ++ c.requires.entry.0 ∷ []) (sym c.pass.view_is)))
    c.pass.view_is c.requires.basis c.requires.entry.1 c.requires.entry.2 c.announce.ensures.lawful).sound
