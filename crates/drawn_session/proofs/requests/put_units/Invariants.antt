use Rattle.std.proofs.Common.{◌≡◌, ◌++◌, ◌*◌}
use Rattle.std.specs.List.{flat_map, range_with_len}
use Rattle.drawn_session.specs.Draws.{number_behind}
use Rattle.drawn_session.specs.Requests.{request_bytes, unit_of}
use Rattle.drawn_session.proofs.requests.put_units.Given as goal

abbrev pub invariant-loop-unit : goal.invariant-loop-unit
invariant-loop-unit l = record {
  bytes : l.bytes.items ≡ l.initial.bytes.items ++ flat_map request_bytes (flat_map (unit_of l.seed) (range_with_len 0 l.unit));
  number : l.draws.number ≡ number_behind l.seed (200 * l.unit);
}
