use Rattle.std.proofs.Common.{◌≡◌, Some, take}
use Rattle.core_model.specs.Steps.{state_after, first_state}
use Rattle.core_model.proofs.judge.replay.Given as goal

abbrev pub invariant-loop-at : goal.invariant-loop-at
invariant-loop-at l = state_after (record { types = l.types; items = l.items; names = l.names }) (first_state l.fn.start) (take l.at l.words) ≡ Some l.state
