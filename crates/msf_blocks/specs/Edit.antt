-- An edit of a stream.
use Rattle.std.specs.Prelude.{ℕ, List}

-- bytes that a stream has from a place on, and the length that it has then
pub record StreamEdit : Type 0 where
  pub stream : ℕ
  pub at : ℕ
  pub bytes : List ℕ
  pub len : ℕ
