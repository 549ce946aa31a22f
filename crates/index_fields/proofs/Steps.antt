-- The index fields of one step of a walk, and those of the rest.
use Rattle.std.proofs.Common.{◌≡◌, ◌<◌, ◌+◌, ◌-◌, ◌*◌, ℕ, suc, List, ◌∷◌, IsOk, refl, ap, ◌∙◌, arith}
use Rattle.std.specs.Prelude.{flat_map}
use Rattle.leaf_grammar.specs.declared.grammar.Space.{Space}
use Rattle.leaf_grammar.specs.Leaf.{leaf_of}
use Rattle.leaf_grammar.specs.Found.{forms_of}
use Rattle.leaf_grammar.proofs.Flat.{in_placed, leaf_flat}
use Rattle.index_fields.specs.Fields.{field_at, fields_in, fields_of, run_from}

run_suc : (space : Space) (r : List ℕ) (at n m : ℕ) → n ≡ suc m → run_from space r at n ≡ field_at space r at ∷ run_from space r (at + 4) m
run_suc space r at n m e = rw e refl

pub run_step : (space : Space) (r : List ℕ) (from count k : ℕ) → k < count →
    run_from space r (from + 4 * k) (count - k) ≡ field_at space r (from + 4 * k) ∷ run_from space r (from + 4 * (k + 1)) (count - (k + 1))
run_step space r from count k h =
    let e : from + 4 * k + 4 ≡ from + 4 * (k + 1) = omega arith in
    run_suc space r (from + 4 * k) (count - k) (count - (k + 1)) (omega arith)
    ∙ ap (λ at. field_at space r (from + 4 * k) ∷ run_from space r at (count - (k + 1))) e

-- the fields of a leaf are those of the forms that stand in it
pub fields_flat : (space : Space) (r : List ℕ) → IsOk (leaf_of space r) → fields_of space r ≡ flat_map (in_placed fields_in r) (forms_of space r)
unfolding fields_of
fields_flat space r h = leaf_flat fields_in space r h
