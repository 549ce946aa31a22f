-- Workers that come back with their badges, for who calls the pool.
use Rattle.std.proofs.Common.{◌≡◌, ℕ, List, Option, Some, None, map, slice_get, refl, sym, ap, ◌∙◌}
use Rattle.std.specs.Option.{option_map}
use Rattle.std.proofs.lemmas.Option.{slice_get-map}

there : {A B : Type 0} (f : A → B) (o : Option A) (b : B) → option_map f o ≡ Some b → (v : A) × (o ≡ Some v) × (f v ≡ b)
there f None b e = absurd cc
there f (Some v) b e = (v, refl, cc)

-- where two lists give the same badges, a worker of the one has the badge of the other's at its place
pub same_badge : {W : Type 0} (badge : W → List ℕ) (old new : List W) → map badge new ≡ map badge old → (k : ℕ) (w : W) → slice_get new k ≡ Some w
    → (v : W) × (slice_get old k ≡ Some v) × (badge v ≡ badge w)
same_badge badge old new same k w is =
    there badge (slice_get old k) (badge w)
    (sym (slice_get-map badge old k) ∙ ap (λ xs. slice_get xs k) (sym same) ∙ slice_get-map badge new k ∙ ap (option_map badge) is)
