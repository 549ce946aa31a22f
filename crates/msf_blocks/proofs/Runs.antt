-- Bytes that stand in two runs, one behind the other.
use Rattle.std.proofs.Common.{◌≡◌, ◌≤◌, ◌+◌, ◌-◌, ◌++◌, inl, inr, ℕ, List, length, take, drop, min, sym, ap, ◌∙◌, arith}
use Rattle.std.proofs.lemmas.Bool.{cases_lt}
use Rattle.std.proofs.lemmas.List.{append-nil, take-append-le, drop-append-le, take_all, length-drop}
use Rattle.std.proofs.Math.Seq.{drop-append-add, take-append-add}

-- the bytes from one on and before another are those of the front, and then those of the rest
pub two_runs : (from end a b : ℕ) (front rest : List ℕ) → from ≤ end → a ≡ min from (length front) → b ≡ min end (length front)
    → take (b - a) (drop a front) ++ take ((end - b) - (from - a)) (drop (from - a) rest) ≡ take (end - from) (drop from (front ++ rest))
two_runs from end a b front rest order is_a is_b =
    let n = length front in
    elim (cases_lt n from) [
      | inl past ↦
          let none : b - a ≡ 0 = omega (arith, past, order, is_a, is_b) in
          let count : (end - b) - (from - a) ≡ end - from = omega (arith, past, order, is_a, is_b) in
          let at : n + (from - a) ≡ from = omega (arith, past, is_a) in
          (λ i. take (none i) (drop a front) ++ take (count i) (drop (from - a) rest))
          ∙ ap (λ xs. take (end - from) xs) (sym (drop-append-add front rest (from - a)) ∙ ap (λ k. drop k (front ++ rest)) at)
      | inr within ↦
          let left = drop from front in
          let len = length-drop from front in
          let first : a ≡ from = omega (arith, within, is_a) in
          let seam = drop-append-le from front rest within in
          elim (cases_lt n end) [
            | inl past ↦
                let whole : b - a ≡ length left = omega (arith, within, past, is_a, is_b, len) in
                let count : (end - b) - (from - a) ≡ end - n = omega (arith, within, past, is_a, is_b) in
                let at : from - a ≡ 0 = omega (arith, first) in
                let all : length left + (end - n) ≡ end - from = omega (arith, within, past, len) in
                (λ i. take (whole i) (drop (first i) front) ++ take (count i) (drop (at i) rest))
                ∙ ap (λ xs. xs ++ take (end - n) rest) (take_all (length left) left (omega (arith)))
                ∙ sym (take-append-add left rest (end - n))
                ∙ ap (λ k. take k (left ++ rest)) all
                ∙ ap (λ xs. take (end - from) xs) (sym seam)
            | inr short ↦
                let count : b - a ≡ end - from = omega (arith, within, short, is_a, is_b) in
                let none : (end - b) - (from - a) ≡ 0 = omega (arith, short, first, is_b) in
                (λ i. take (count i) (drop (first i) front) ++ take (none i) (drop (from - a) rest))
                ∙ append-nil (take (end - from) left)
                ∙ sym (take-append-le (end - from) left rest (omega (arith, short, within, len)))
                ∙ ap (λ xs. take (end - from) xs) (sym seam)
          ]
    ]
