-- What each step tells the one who makes it.
use Rattle.std.specs.Prelude.{◌≡◌, ◌≢◌, ℕ, ◌%◌, ◌^◌, ◌<◌, ◌≤◌, ◌⊎◌, List, [], ◌∷◌, ◌++◌, length}
use mathlib.Core.Option.{some}
use lib.ListN.{get_elem?}
use Rattle.std.specs.declared.snapshot.Snapshot.{Snapshot}
use Rattle.atomic_table.specs.Table.{Me, Step, rest}
use Rattle.turnstile.specs.declared.history.Entry.{Entry}
use Rattle.turnstile.specs.declared.history.Basis.{Basis}
use Rattle.turnstile.specs.declared.view.Ended.{Ended}
use Rattle.turnstile.specs.declared.view.Place.{Place}
use Rattle.turnstile.specs.declared.view.Place.TheVariants.{Full, Shown}
use Rattle.turnstile.specs.declared.view.Role.TheVariants.{Caller}
use Rattle.turnstile.specs.declared.view.Stage.TheVariants.{Idle, Waiting, Served, Loaded}
use Rattle.turnstile.specs.declared.view.View.{View}
use Rattle.turnstile.specs.Histories.{Begins, calls_by}
use Rattle.turnstile.specs.Views.{staged, saw, filed, times}

-- the history as it is when its length is read, seen by the view v
pub record Sights (law : Basis → List Entry → Type 0) (v : View) (found : ℕ) (log : List Entry) : Type 0 where
  pub short : found < 2 ^ 32
  pub count : found ≡ length log
  pub seen : Begins v.seen log
  pub was : Begins v.was log
  pub told : Begins v.told log
  pub lawful : law v.basis log
  pub own : (n : ℕ) → v.role ≡ Caller n → v.mine ≡ calls_by n log
  pub some_made : v.role ≡ Caller 0 → 0 < v.made
  pub lives : v.role ≡ Caller 0 → times 0 v.ended ≡ 0
  pub unused : v.role ≡ Caller 0 → (n : ℕ) → v.made ≤ n → calls_by n log ≡ []
  pub retired : v.role ≡ Caller 0 → (k : ℕ) (e : Ended) → get_elem? v.ended k ≡ some e → e.calls ≡ calls_by e.number log

module _ {V : Type 0} where
  -- a ticket is drawn where the number found is the one that was expected
  abbrev pub Draws : Step (Place V) → Me (Place V) View → ℕ → Me (Place V) View → Type 0
  Draws step me found after = ((found ≡ step.first) × (t : ℕ) × (found ≡ t % 2 ^ 64) × (after ≡ (staged (Waiting t) me.0, me.1))) ⊎ ((found ≢ step.first) × (after ≡ me))

  abbrev pub Looks : Step (Place V) → Me (Place V) View → ℕ → Me (Place V) View → Type 0
  Looks step me found after = (t : ℕ) → me.0.stage ≡ Waiting t
      → ((found ≡ t % 2 ^ 64) × (after ≡ (staged (Served t) me.0, me.1))) ⊎ ((found ≢ t % 2 ^ 64) × (after ≡ me))

  abbrev pub Leaves : Step (Place V) → Me (Place V) View → ℕ → Me (Place V) View → Type 0
  Leaves step me found after = after ≡ (staged Idle me.0, rest me.1)

  abbrev pub Rings : Step (Place V) → Me (Place V) View → ℕ → Me (Place V) View → Type 0
  Rings step me found after = after ≡ me

module _ {V : Type 0} where
  -- of a pass in no turn
  abbrev pub Fronts : (law : Basis → List Entry → Type 0) → Step (Place V) → Me (Place V) View → ℕ → Me (Place V) View → Type 0
  Fronts law step me found after = (log : List Entry) × Sights law me.0 found log × (after ≡ (saw log me.0, me.1))

  -- of a pass that is served, and then has the value
  abbrev pub Takes : (basis : V → Basis) → (entries : V → List Entry) → (law : Basis → List Entry → Type 0) → Step (Place V) → Me (Place V) View → ℕ → Me (Place V) View → Type 0
  Takes basis entries law step me found after = (log : List Entry) × (t : ℕ) × (x : V) × Sights law me.0 found log × (basis x ≡ me.0.basis) × (entries x ≡ log)
      × (after ≡ (staged (Loaded t) (saw log me.0), (0, Full x) ∷ me.1))

  -- of a pass that has the value, which it announces
  abbrev pub Files : (entries : V → List Entry) → Step (Place V) → Me (Place V) View → ℕ → Me (Place V) View → Type 0
  Files entries step me found after = (x : Snapshot V) (e : Entry) → step.said ≡ some (Shown x) → entries x.value ≡ me.0.seen ++ e ∷ [] → after ≡ (filed e me.0, me.1)
