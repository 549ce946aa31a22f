use Rattle.std.proofs.Common.{◌+◌, drop, ap, sym, ◌∙◌, arith}
use Rattle.std.specs.Option.{option_map}
use Rattle.core_model.proofs.Places.{past}
use Rattle.core_model.proofs.state.place_of_offset.Goals as goal

pub returns-then-start-wanted-clause-place : goal.returns-then-start-wanted-clause-place
returns-then-start-wanted-clause-place c =
    let place = c.loop-place.place in
    sym (c.loop-place.invariant.rest ∙ ap (option_map (λ q. place + q)) (past c.loop-place.start (drop place c.args.names.now) c.args.offset (omega arith)))
