-- The passes, and what each of them has seen.
use Rattle.std.specs.Prelude.{◌==◌, ℕ, nat_lt, Bool, List, [], if◌then◌else◌}
use Rattle.turnstile.specs.declared.history.Entry.{Entry}

-- what a caller has seen of the history, and its own calls
pub record Knowledge : Type 0 where
  pub seen : List Entry
  pub mine : List Entry

-- nothing seen, and no call made
abbrev pub fresh : ℕ → Knowledge
fresh c = record { seen = []; mine = [] }

-- The passes, which callers hold, have the numbers 0 to 254.
abbrev pub is_pass : ℕ → Bool
is_pass c = nat_lt c 255

-- the same, but for what this caller has seen
abbrev pub with_view : (ℕ → Knowledge) → ℕ → Knowledge → ℕ → Knowledge
with_view views c view d = if d == c then view else views d
