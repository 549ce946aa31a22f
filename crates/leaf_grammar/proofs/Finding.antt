-- What is found in one part, and in those behind it.
use Rattle.std.proofs.Common.{◌≡◌, ◌<◌, ◌+◌, ℕ, suc, List, ◌++◌, length, drop, get_or, Ok, refl, ap, ◌∙◌, add-one, drop-cons}
use Rattle.leaf_grammar.specs.declared.grammar.Form.{Form}
use Rattle.leaf_grammar.specs.declared.grammar.Part.{Part}
use Rattle.leaf_grammar.specs.declared.grammar.Cursor.{Cursor}
use Rattle.leaf_grammar.specs.Leaf.{past}
use Rattle.leaf_grammar.specs.Found.{onwards, found_at, found_in}

pub found_step : {B : Type 0} (find : Form → List ℕ → ℕ → List B) (parts : List Part) (i : ℕ) (d : Part) (r : List ℕ) (c next : Cursor) → i < length parts → past (get_or parts i d) r c ≡ Ok next →
    found_in find (drop i parts) r c ≡ found_at find (get_or parts i d) r c ++ found_in find (drop (i + 1) parts) r next
found_step find parts i d r c next h e =
    let part = get_or parts i d in
    rw (drop-cons parts i d h) (ap (λ p. onwards p (λ x. found_at find part r c ++ found_in find (drop (suc i) parts) r x)) e ∙ rw add-one refl)
