-- Counts of faults. A count is a u64 that stands still at its last value.
use Rattle.std.specs.Prelude.{◌≡◌, ◌≤◌, ◌+◌, ◌-◌, ◌^◌, ℕ, min, Result, MatchResult}

-- the last value of a count
abbrev pub last_count : ℕ
last_count = 2 ^ 64 - 1

-- A count rose by at least n. One that stands at its last value is said to have risen by any number.
abbrev pub RoseBy : ℕ → ℕ → ℕ → Type 0
RoseBy n before now = min (before + n) last_count ≤ now

abbrev pub Rose : ℕ → ℕ → Type 0
Rose before now = RoseBy 1 before now

-- A fault has its cause: the count never falls, and it rose where the answer is a fault.
pub record HasCause (is_fault : Type 0) (before now : ℕ) : Type 0 where
  pub never_falls : before ≤ now
  pub rose : is_fault → Rose before now

-- A call that fails raises the count by one, up to its last value, and no other call does.
abbrev pub Counts : {A E : Type 0} → ℕ → Result A E → ℕ → Type 0
Counts before result now = MatchResult result (λ _. now ≡ before) (λ _. now ≡ min (before + 1) last_count)
