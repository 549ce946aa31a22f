-- How many requests a drawn session has.
use Rattle.std.proofs.Common.{◌≡◌, ◌∙◌, ◌+◌, ◌*◌, ◌/◌, ◌%◌, ◌==◌, ℕ, zero, suc, Bool, cond, true, false, [], ◌∷◌, ◌++◌, length, refl, sym, ap, length-append, arith}
use Rattle.std.specs.List.{flat_map, range_with_len}
use Rattle.std.proofs.lemmas.List.{flat_map_more}
use Rattle.std.proofs.lemmas.List.FromFn.{length-map-range_with_len}
use Rattle.request_frames.specs.Requests.{bye, commit}
use Rattle.drawn_session.specs.Draws.{draw_behind, number_behind}
use Rattle.drawn_session.specs.Line.{request_count}
use Rattle.drawn_session.specs.Requests.{commit_behind, first_request, first_requests, request_of, requests, unit_behind, unit_of, unit_requests}
use Rattle.drawn_session.proofs.Loops.{range_next}

first_count : length first_requests ≡ 64
unfolding first_requests
first_count = length-map-range_with_len first_request 0 64

behind_count : (x : ℕ) → length (unit_behind x) ≡ 200
unfolding unit_behind
behind_count x = length-map-range_with_len (λ i. request_of (draw_behind x i)) 0 200

-- one commit more behind each hundredth unit
commit_more : (n : ℕ) → n / 100 + length (commit_behind (n + 1)) ≡ (n + 1) / 100
commit_more n = go ((n + 1) % 100 == 0) refl
  where
    go : (b : Bool) → ((n + 1) % 100 == 0) ≡ b → n / 100 + length (cond b (commit ∷ []) []) ≡ (n + 1) / 100
    go true e = grind (arith, e)
    go false e = grind (arith, e)

unit_count : (seed n : ℕ) → length (unit_of seed n) ≡ 200 + length (commit_behind (n + 1))
unit_count seed n = length-append (unit_behind (number_behind seed (200 * n))) (commit_behind (n + 1)) ∙ ap (λ k. k + length (commit_behind (n + 1))) (behind_count _)

units_count : (units seed : ℕ) → length (unit_requests units seed) ≡ 200 * units + units / 100
unfolding unit_requests
units_count zero seed = refl
units_count (suc n) seed =
    ap (λ k. length (flat_map (unit_of seed) (range_with_len 0 k))) (one n)
    ∙ ap (λ xs. length (flat_map (unit_of seed) xs)) (range_next n)
    ∙ ap length (sym (flat_map_more (unit_of seed) [] (range_with_len 0 n) n))
    ∙ length-append (flat_map (unit_of seed) (range_with_len 0 n)) (unit_of seed n)
    ∙ sum (length (flat_map (unit_of seed) (range_with_len 0 n))) (length (unit_of seed n)) (length (commit_behind (n + 1))) n (units_count n seed) (unit_count seed n) (commit_more n)
  where
    one : (n : ℕ) → suc n ≡ n + 1
    one n = omega arith

    sum : (a b c n : ℕ) → a ≡ 200 * n + n / 100 → b ≡ 200 + c → n / 100 + c ≡ (n + 1) / 100 → a + b ≡ 200 * suc n + suc n / 100
    sum a b c n first then more = omega (arith, first, then, more, ap (λ k. k / 100) (one n))

pub session_count : (units seed : ℕ) → length (requests units seed) ≡ request_count units
session_count units seed =
    length-append (first_requests ++ unit_requests units seed) (bye ∷ [])
    ∙ ap (λ k. k + 1) (length-append first_requests (unit_requests units seed) ∙ ap (λ k. k + length (unit_requests units seed)) first_count ∙ ap (λ k. 64 + k) (units_count units seed))
    ∙ omega arith
