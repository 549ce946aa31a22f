use Rattle.turnstile.proofs.Passing.{closes, closes_with}
use Rattle.turnstile.proofs.pass.Turnstile.close.Goals as goal

pub into_value-requires : goal.into_value-requires
into_value-requires g c =
    let end = closes g.V.Historied.basis g.V.Historied.entries g.V.Historied.law _ _ _ _ _ _ _ _ _ c.close_with-closed.ensures.values.2 c.first.view_is c.first.invariant.role c.requires.first c.requires.idle.1 c.requires.retired c.take-place.ensures.value in
    (end.0, end.1)

pub returns : goal.returns
returns g c =
    let end = closes_with g.V.Historied.basis g.V.Historied.entries g.V.Historied.law _ _ _ (closes g.V.Historied.basis g.V.Historied.entries g.V.Historied.law _ _ _ _ _ _ _ _ _ c.close_with-closed.ensures.values.2 c.first.view_is c.first.invariant.role c.requires.first c.requires.idle.1 c.requires.retired c.take-place.ensures.value) c.into_value.ensures in
    record { basis = end.base; seen = end.seen; lawful = end.lawful; mine = end.mine; ended = end.ended; others = end.others }
