use Rattle.std.proofs.Common.{◌≡◌, ◌∙◌, ◌++◌, ℕ, List, map, ap, arith}
use Rattle.std.specs.List.{flat_map, range_with_len}
use Rattle.request_frames.specs.Requests.{add_type}
use Rattle.drawn_session.specs.Requests.{first_request, first_requests, request_bytes}
use Rattle.drawn_session.proofs.Loops.{put_next}
use Rattle.drawn_session.proofs.requests.put_first.Goals as goal

pub loop-attributes-preserved : goal.loop-attributes-preserved
loop-attributes-preserved c =
    let old = c.loop-attributes.bytes.items in
    c.in_ok-put.ensures ∙ ap (λ (r : List ℕ). old ++ request_bytes (add_type r)) (c.deref.ensures.value ∙ c.in_ok-record.ensures.bytes)
    ∙ put_next first_request c.args.bytes.now.items old c.loop-attributes.attributes c.loop-attributes.invariant

pub returns : goal.returns
unfolding first_requests
returns c =
    let all : c.loop-attributes.attributes ≡ 64 = omega (arith, c.loop-attributes-test.false, c.loop-attributes.auto.attributes-end) in
    c.loop-attributes.invariant ∙ ap (λ (n : ℕ). c.args.bytes.now.items ++ flat_map request_bytes (map first_request (range_with_len 0 n))) all
