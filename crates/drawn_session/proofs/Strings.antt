-- The strings of numbers.
use Rattle.std.proofs.Common.{◌≡◌, ◌∙◌, ◌+◌, ◌-◌, ℕ, List, ◌∷◌, ◌++◌, length, take, replicate, ap, append_assoc, length-append, arith}
use Rattle.std.proofs.lemmas.List.{take_all}
use Rattle.drawn_session.specs.Records.{filled}

-- twelve bytes, of which the last are zero
pub filled_is : (word digits old items : List ℕ) (count : ℕ) → length word ≡ 4 → count + length digits ≡ 4 → old ≡ (10 ∷ 0 ∷ 5 ∷ 22 ∷ word) ++ digits
    → items ≡ take 12 old ++ replicate count 0 → items ≡ (10 ∷ 0 ∷ 5 ∷ 22 ∷ word) ++ filled digits
filled_is word digits old items count four counted is made =
    let long = ap length is ∙ length-append (10 ∷ 0 ∷ 5 ∷ 22 ∷ word) digits in
    made ∙ ap (λ xs. xs ++ replicate count 0) (take_all 12 old (omega (arith, long, four, counted)) ∙ is)
    ∙ ap (λ k. ((10 ∷ 0 ∷ 5 ∷ 22 ∷ word) ++ digits) ++ replicate k 0) (omega (arith, counted))
    ∙ append_assoc (10 ∷ 0 ∷ 5 ∷ 22 ∷ word) digits (replicate (4 - length digits) 0)
