-- The entries of the map from texts to offsets.
use Rattle.std.specs.Prelude.{◌≡◌, ℕ, List, [], ◌∷◌, Option, None}
use Rattle.std.specs.Global.{Vec}
use Rattle.std.specs.Map.{lookup}
use Rattle.std.specs.Str.{bytes_eq}
use Rattle.names_table.specs.Names.{offset_from}

-- where the first name of a list begins that equals this one, if it has a byte or more
abbrev pub first_of : List (List ℕ) → List ℕ → Option ℕ
first_of names [] = None
first_of names (b ∷ name) = offset_from 1 names (b ∷ name)

-- The map has the first offset of each name of the list that is not empty, and no more.
abbrev pub FindsFirst : List (List ℕ) → List (Vec ℕ × ℕ) → Type 0
FindsFirst names entries = (name : List ℕ) → lookup (λ key. bytes_eq name key.items) entries ≡ first_of names name
