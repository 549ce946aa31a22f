use Rattle.std.proofs.Common.{◌≡◌, ◌++◌, map}
use Rattle.std.specs.List.{flat_map, range_with_len}
use Rattle.drawn_session.specs.Requests.{first_request, request_bytes}
use Rattle.drawn_session.proofs.requests.put_first.Given as goal

abbrev pub invariant-loop-attributes : goal.invariant-loop-attributes
invariant-loop-attributes l = l.bytes.items ≡ l.initial.bytes.items ++ flat_map request_bytes (map first_request (range_with_len 0 l.attributes))
