-- What a row of calls does, by what one call does.
use Rattle.std.specs.Prelude.{◌≡◌, List, [], ◌∷◌}

-- one call for each, from left to right: each finds the visitor as the call before it left it
abbrev pub Visits : {V X : Type 0} → (V → X → V → Type 0) → List X → V → V → Type 0
Visits does [] before after = before ≡ after
Visits {V} does (x ∷ xs) before after = (between : V) × does before x between × Visits does xs between after
