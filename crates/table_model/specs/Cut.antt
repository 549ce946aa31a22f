-- The cut of a commit.
use Rattle.std.specs.Prelude.{ℕ}
use Rattle.table_model.specs.Tables.{Tables}

-- what a commit writes: its number, and the tables as they stand where it begins
pub record Cut : Type 0 where
  pub number : ℕ
  pub tables : Tables
