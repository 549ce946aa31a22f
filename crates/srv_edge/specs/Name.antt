-- What a name is.
use Rattle.std.specs.Prelude.{◌≢◌, ◌≤◌, ℕ, List, length, All}
use Rattle.srv_edge.specs.declared.limit.TheConstants.{NAME_BYTES}

-- a name has no NUL, and not too many bytes
pub record IsName (name : List ℕ) : Type 0 where
  pub longest : length name ≤ NAME_BYTES
  pub no_nul : All (λ b. b ≢ 0) name
