use Rattle.std.proofs.Common.{◌≡◌, ◌+◌, drop}
use Rattle.std.specs.Option.{option_map}
use Rattle.core_model.specs.Steps.{place_of_offset}
use Rattle.core_model.proofs.state.place_of_offset.Given as goal

abbrev pub invariant-loop-place : goal.invariant-loop-place
invariant-loop-place l = record {
  rest : place_of_offset 1 l.names l.offset ≡ option_map (λ place. l.place + place) (place_of_offset l.start (drop l.place l.names) l.offset);
}
