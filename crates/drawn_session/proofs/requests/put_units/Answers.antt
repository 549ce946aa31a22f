use Rattle.std.proofs.Common.{◌≡◌, ◌∙◌, ◌++◌, ◌+◌, ◌*◌, ℕ, sym, ap, append_assoc, arith}
use Rattle.std.specs.List.{flat_map, range_with_len}
use Rattle.std.proofs.lemmas.List.{append-nil}
use Rattle.std.proofs.lemmas.Grind.{flat_map-append}
use Rattle.drawn_session.specs.Draws.{number_behind}
use Rattle.drawn_session.specs.Requests.{commit_behind, request_bytes, unit_behind, unit_of, unit_requests}
use Rattle.drawn_session.proofs.Loops.{number_behind-add, number_behind-none, put_list}
use Rattle.drawn_session.proofs.requests.put_units.Goals as goal

pub loop-unit-init : goal.loop-unit-init
loop-unit-init c = record { bytes = sym (append-nil _); number = c.from.ensures ∙ sym (number_behind-none c.args.seed) }

pub loop-unit-preserved : goal.loop-unit-preserved
loop-unit-preserved c =
    let seed = c.args.seed in
    let u = c.loop-unit.unit in
    let old = c.loop-unit.bytes.items in
    let first = unit_behind (number_behind seed (200 * u)) in
    let unit : c.put_unit.new.bytes.items ≡ old ++ flat_map request_bytes first =
    c.in_ok-put_unit.ensures.unit ∙ ap (λ (x : ℕ). old ++ flat_map request_bytes (unit_behind x)) c.loop-unit.invariant.number
    in
    let whole : c.put_commit.new.bytes.items ≡ old ++ flat_map request_bytes (unit_of seed u) =
    c.in_ok-put_commit.ensures ∙ ap (λ xs. xs ++ flat_map request_bytes (commit_behind (u + 1))) unit
    ∙ append_assoc old (flat_map request_bytes first) (flat_map request_bytes (commit_behind (u + 1)))
    ∙ ap (λ xs. old ++ xs) (sym (flat_map-append request_bytes first (commit_behind (u + 1))))
    in
    record {
      bytes = whole ∙ put_list (unit_of seed) c.args.bytes.now.items old u c.loop-unit.invariant.bytes;
      number = c.in_ok-put_unit.ensures.number ∙ ap (λ (x : ℕ). number_behind x 200) c.loop-unit.invariant.number ∙ number_behind-add seed (200 * u) 200
          ∙ ap (number_behind seed) (omega arith);
    }

pub returns : goal.returns
unfolding unit_requests
returns c =
    c.loop-unit.invariant.bytes ∙ ap (λ (n : ℕ). c.args.bytes.now.items ++ flat_map request_bytes (flat_map (unit_of c.args.seed) (range_with_len 0 n))) (omega (arith, c.loop-unit-test.false, c.loop-unit.auto.unit-end))
