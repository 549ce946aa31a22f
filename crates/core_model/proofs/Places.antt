-- The places of names, by their offsets.
use Rattle.std.proofs.Common.{◌≡◌, ◌≢◌, ◌<◌, ◌+◌, ℕ, zero, suc, Bool, true, false, cond, eqb, eq-eqb, ne_eqb, List, [], ◌∷◌, length, get_or, drop, Option, Some, None, refl, sym, ap, ◌∙◌, arith}
use Rattle.std.specs.Option.{option_map}
use Rattle.core_model.specs.Steps.{place_of_offset}

-- a name and those behind it
drop-here : (names : List (List ℕ)) (i : ℕ) (x : List ℕ) → i < length names → x ≡ get_or names i x → drop i names ≡ x ∷ drop (i + 1) names
drop-here [] i x within at = absurd (omega arith)
drop-here (y ∷ names) zero x within at = ap (λ z. z ∷ names) (sym at)
drop-here (y ∷ names) (suc i) x within at =
    let next : suc i + 1 ≡ suc (i + 1) = omega arith in
    rw next (drop-here names i x (omega arith) at)

-- no name begins before the first
pub past : (start : ℕ) (names : List (List ℕ)) (offset : ℕ) → offset < start → place_of_offset start names offset ≡ None
past start [] offset before = refl
past start (x ∷ names) offset before =
    ap (λ b. cond b (cond (eqb (length x) 0) None (Some 0)) (option_map (λ place. place + 1) (place_of_offset (start + length x + 1) names offset))) (ne_eqb start offset (λ e. omega (arith, e)))
    ∙ ap (option_map (λ place. place + 1)) (past (start + length x + 1) names offset (omega arith))

moved : (i : ℕ) (o : Option ℕ) → option_map (λ place. i + place) (option_map (λ place. place + 1) o) ≡ option_map (λ place. i + 1 + place) o
moved i None = refl
moved i (Some q) = let e : i + (q + 1) ≡ i + 1 + q = omega arith in ap Some e

zeroth : (i : ℕ) (b : Bool) → option_map (λ place. i + place) (cond b None (Some 0)) ≡ cond b None (Some i)
zeroth i true = refl
zeroth i false = let e : i + 0 ≡ i = omega arith in ap Some e

-- where the offset is that of the name at this place
pub found-here : (names : List (List ℕ)) (i start offset : ℕ) (x : List ℕ) → i < length names → x ≡ get_or names i x → start ≡ offset
    → option_map (λ place. i + place) (place_of_offset start (drop i names) offset) ≡ cond (eqb (length x) 0) None (Some i)
found-here names i start offset x within at same =
    ap (λ rest. option_map (λ place. i + place) (place_of_offset start rest offset)) (drop-here names i x within at)
    ∙ ap (λ b. option_map (λ place. i + place) (cond b (cond (eqb (length x) 0) None (Some 0)) (option_map (λ place. place + 1) (place_of_offset (start + length x + 1) (drop (i + 1) names) offset)))) (eq-eqb start offset same)
    ∙ zeroth i (eqb (length x) 0)

-- where it is not
pub found-further : (names : List (List ℕ)) (i start offset : ℕ) (x : List ℕ) → i < length names → x ≡ get_or names i x → start ≢ offset
    → option_map (λ place. i + place) (place_of_offset start (drop i names) offset) ≡ option_map (λ place. i + 1 + place) (place_of_offset (start + length x + 1) (drop (i + 1) names) offset)
found-further names i start offset x within at other =
    ap (λ rest. option_map (λ place. i + place) (place_of_offset start rest offset)) (drop-here names i x within at)
    ∙ ap (λ b. option_map (λ place. i + place) (cond b (cond (eqb (length x) 0) None (Some 0)) (option_map (λ place. place + 1) (place_of_offset (start + length x + 1) (drop (i + 1) names) offset)))) (ne_eqb start offset other)
    ∙ moved i (place_of_offset (start + length x + 1) (drop (i + 1) names) offset)
