-- The rule of the turnstile: what holds of the table's words, its slot and all views between any two steps.
-- Word 0 is the next ticket, word 1 the ticket that is served, word 2 the number of entries filed. The last is the bell, on which passes sleep: the rule says nothing of what it reads.
use Rattle.std.specs.Prelude.{◌≡◌, ◌≢◌, ℕ, zero, suc, ◌+◌, ◌%◌, ◌^◌, ◌<◌, ◌≤◌, List, [], ◌∷◌, length}
use mathlib.Core.Option.{Option, none, some}
use lib.ListN.{get_elem?}
use Rattle.atomic_table.specs.Table.{State}
use Rattle.turnstile.specs.declared.history.Entry.{Entry}
use Rattle.turnstile.specs.declared.history.Basis.{Basis}
use Rattle.turnstile.specs.declared.view.Ended.{Ended}
use Rattle.turnstile.specs.declared.view.Place.{Place}
use Rattle.turnstile.specs.declared.view.Place.TheVariants.{Full}
use Rattle.turnstile.specs.declared.view.Role.TheVariants.{Caller, Spent}
use Rattle.turnstile.specs.declared.view.Stage.{Stage}
use Rattle.turnstile.specs.declared.view.Stage.TheVariants.{Idle, Waiting, Served, Loaded}
use Rattle.turnstile.specs.declared.view.View.{View}
use Rattle.turnstile.specs.Histories.{Begins, calls_by}
use Rattle.turnstile.specs.Views.{total, numbered, alive, ticketed, queued, loaded, times, waits, lives}

-- a pass is served when its ticket is, and has the value only then, with the whole history seen
abbrev pub InTurn : List Entry → ℕ → List Entry → Stage → Type 0
InTurn log serving seen Idle = Unit {0}
InTurn log serving seen (Waiting t) = Unit {0}
InTurn log serving seen (Served t) = t ≡ serving
InTurn log serving seen (Loaded t) = (t ≡ serving) × (seen ≡ log)

-- what a view that is not spent has seen
pub record IsInformed (law : Basis → List Entry → Type 0) (start : Basis) (log : List Entry) (v : View) : Type 0 where
  pub basis : v.basis ≡ start
  pub seen : Begins v.seen log
  pub was : Begins v.was log
  pub told : Begins v.told log
  pub lawful : law start v.seen

-- pass 0 knows how many passes there were, and which of them it retired with which calls
pub record KnowsPasses (made : ℕ) (ended : List Ended) (v : View) : Type 0 where
  pub counts : v.made ≡ made
  pub lists : v.ended ≡ ended
  pub ended_seen : (k : ℕ) (e : Ended) → get_elem? ended k ≡ some e → e.calls ≡ calls_by e.number v.seen

-- the calls of the pass n are those of its number, and it has seen them all
pub record IsCaller (log : List Entry) (made : ℕ) (ended : List Ended) (n : ℕ) (v : View) : Type 0 where
  pub all : v.mine ≡ calls_by n log
  pub seen : v.mine ≡ calls_by n v.seen
  pub first : n ≡ 0 → KnowsPasses made ended v

pub record Fits (law : Basis → List Entry → Type 0) (start : Basis) (log : List Entry) (serving made : ℕ) (ended : List Ended) (v : View) : Type 0 where
  pub informed : v.role ≢ Spent → IsInformed law start log v
  pub calls : (n : ℕ) → v.role ≡ Caller n → IsCaller log made ended n v
  pub passes_wait : waits v.stage ≤ lives v.role
  pub in_turn : InTurn log serving v.seen v.stage

-- the history is lawful, has fewer than 2^32 entries, and only calls of passes that were made, the retired ones' among them
pub record IsHistory (law : Basis → List Entry → Type 0) (start : Basis) (log : List Entry) (made : ℕ) (ended : List Ended) : Type 0 where
  pub lawful : law start log
  pub short : length log < 2 ^ 32
  pub no_calls : (n : ℕ) → made ≤ n → calls_by n log ≡ []
  pub retired : (k : ℕ) (e : Ended) → get_elem? ended k ≡ some e → e.calls ≡ calls_by e.number log

-- each number below `made` is that of one pass, which lives or is retired
pub record IsRoll (made : ℕ) (ended : List Ended) (views : List View) : Type 0 where
  pub numbers : (n : ℕ) → n < made → total (numbered n) views + times n ended ≡ 1
  pub no_numbers : (n : ℕ) → made ≤ n → total (numbered n) views + times n ended ≡ 0
  pub living : total alive views + length ended ≡ made
  pub few : made ≤ 255

-- the tickets that are out are those from `serving` on, each once
pub record IsLine (serving waiting : ℕ) (views : List View) : Type 0 where
  pub in_line : total queued views ≡ waiting
  pub tickets : (t : ℕ) → serving ≤ t → t < serving + waiting → total (ticketed t) views ≡ 1
  pub old_tickets : (t : ℕ) → t < serving → total (ticketed t) views ≡ 0
  pub new_tickets : (t : ℕ) → serving + waiting ≤ t → total (ticketed t) views ≡ 0

module _ {V : Type 0} (basis : V → Basis) (entries : V → List Entry) where
  -- the value is at home with this basis and history, unless a pass has it
  abbrev pub Shelved : Basis → List Entry → ℕ → List (Option (Place V)) → Type 0
  Shelved start log zero homes = (x : V) × (homes ≡ some (Full x) ∷ []) × (basis x ≡ start) × (entries x ≡ log)
  Shelved start log (suc k) homes = homes ≡ none ∷ []

  pub record Orderly (law : Basis → List Entry → Type 0) (start : Basis) (s : State (Place V) View) : Type 0 where
    pub log : List Entry
    pub serving : ℕ
    pub waiting : ℕ
    pub bells : List ℕ
    pub made : ℕ
    pub ended : List Ended
    pub words : s.words ≡ (serving + waiting) % 2 ^ 64 ∷ serving % 2 ^ 64 ∷ length log ∷ bells
    pub history : IsHistory law start log made ended
    pub each : (j : ℕ) (v : View) → get_elem? s.views j ≡ some v → Fits law start log serving made ended v
    pub roll : IsRoll made ended s.views
    pub line : IsLine serving waiting s.views
    pub shelved : Shelved start log (total loaded s.views) s.homes
