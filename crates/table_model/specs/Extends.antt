-- Tables that hold what others hold.
use Rattle.std.specs.Prelude.{◌≡◌, ℕ, List, ◌++◌}
use Rattle.table_model.specs.Tables.{Tables}

-- The long list begins with the short one.
abbrev pub StartsWith : List (List ℕ) → List (List ℕ) → Type 0
StartsWith short long = (more : List (List ℕ)) × (long ≡ short ++ more)

-- tables that hold what others hold, at the same indices and offsets, and maybe more
pub record Extends (short long : Tables) : Type 0 where
  pub types : StartsWith short.types.records long.types.records
  pub items : StartsWith short.items.records long.items.records
  pub names : StartsWith short.names.names long.names.names
