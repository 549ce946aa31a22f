use Rattle.std.proofs.Common.{◌≡◌}
use Rattle.turnstile.specs.Seats.{IsSameSeat}
use Rattle.turnstile.proofs.line.stand.Given as goal

abbrev pub invariant-loop : goal.invariant-loop
invariant-loop g l =
    record { iterates : (goal.iterator-loop g).can_next l.iterator' × (goal.iterator-loop g).is_finite l.iterator'; seat : IsSameSeat l.initial.chair l.chair; same : l.chair.me ≡ l.initial.chair.me }
