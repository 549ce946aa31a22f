use Rattle.std.proofs.Common.{◌≡◌, ◌∙◌, ◌++◌, ℕ, map, sym, ap, arith}
use Rattle.std.specs.List.{flat_map, range_with_len}
use Rattle.std.proofs.lemmas.List.{append-nil}
use Rattle.drawn_session.specs.Draws.{draw_behind, drawn_with, next_number, number_behind}
use Rattle.drawn_session.specs.Requests.{request_bytes, request_of, unit_behind}
use Rattle.drawn_session.proofs.Loops.{number_behind-next, number_behind-none, put_next}
use Rattle.drawn_session.proofs.requests.put_unit.Goals as goal

pub loop-draw-init : goal.loop-draw-init
loop-draw-init c = record { bytes = sym (append-nil _); number = sym (number_behind-none c.args.draws.now.number) }

pub loop-draw-preserved : goal.loop-draw-preserved
loop-draw-preserved c =
    let x = c.args.draws.now.number in
    let i = c.loop-draw._draw in
    let old = c.loop-draw.bytes.items in
    let draw = c.next.ensures.draw ∙ ap (λ (n : ℕ). drawn_with (next_number n)) c.loop-draw.invariant.number in
    record {
      bytes = c.in_ok-put_draw.ensures ∙ ap (λ (r : ℕ). old ++ request_bytes (request_of r)) draw
          ∙ put_next (λ (k : ℕ). request_of (draw_behind x k)) c.args.bytes.now.items old i c.loop-draw.invariant.bytes;
      number = c.next.ensures.number ∙ ap next_number c.loop-draw.invariant.number ∙ number_behind-next x i;
    }

pub returns-clause-unit : goal.returns-clause-unit
unfolding unit_behind
returns-clause-unit c =
    let all : c.loop-draw._draw ≡ 200 = omega (arith, c.loop-draw-test.false, c.loop-draw.auto._draw-end) in
    c.loop-draw.invariant.bytes
    ∙ ap (λ (n : ℕ). c.args.bytes.now.items ++ flat_map request_bytes (map (λ (i : ℕ). request_of (draw_behind c.args.draws.now.number i)) (range_with_len 0 n))) all

pub returns-clause-number : goal.returns-clause-number
returns-clause-number c =
    let all : c.loop-draw._draw ≡ 200 = omega (arith, c.loop-draw-test.false, c.loop-draw.auto._draw-end) in
    c.loop-draw.invariant.number ∙ ap (number_behind c.args.draws.now.number) all
