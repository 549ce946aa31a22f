use Rattle.std.proofs.Common.{◌≡◌, ◌++◌, map}
use Rattle.std.specs.List.{flat_map, range_with_len}
use Rattle.drawn_session.specs.Draws.{draw_behind, number_behind}
use Rattle.drawn_session.specs.Requests.{request_bytes, request_of}
use Rattle.drawn_session.proofs.requests.put_unit.Given as goal

abbrev pub invariant-loop-draw : goal.invariant-loop-draw
invariant-loop-draw l = record {
  bytes : l.bytes.items ≡ l.initial.bytes.items ++ flat_map request_bytes (map (λ i. request_of (draw_behind l.initial.draws.number i)) (range_with_len 0 l._draw));
  number : l.draws.number ≡ number_behind l.initial.draws.number l._draw;
}
