-- What clauses see of a pass and of a note.
use Rattle.std.specs.Prelude.{◌≡◌, ℕ, ◌+◌, ◌<◌, ◌≤◌, Bool, true, false, List, [], ◌∷◌}
use mathlib.Core.Option.{some}
use lib.ListN.{get_elem?}
use Rattle.atomic_table.specs.Seated.{TableId}
use Rattle.turnstile.specs.declared.history.Entry.{Entry}
use Rattle.turnstile.specs.declared.history.Basis.{Basis}
use Rattle.turnstile.specs.declared.view.Ended.{Ended}
use Rattle.turnstile.specs.declared.view.Place.{Place}
use Rattle.turnstile.specs.declared.view.Place.TheVariants.{Empty, Full, Shown}
use Rattle.turnstile.specs.declared.view.Role.TheVariants.{Caller, Noted}
use Rattle.turnstile.specs.declared.view.Stage.{Stage}
use Rattle.turnstile.specs.declared.view.Stage.TheVariants.{Idle, Waiting, Served, Loaded}
use Rattle.turnstile.specs.declared.view.View.{View}
use Rattle.turnstile.specs.Histories.{calls_by}
use Rattle.turnstile.specs.Views.{times}

pub record PassView : Type 0 where
  -- which turnstile it belongs to
  pub turnstile : TableId
  -- whether it is in no turn
  pub idle : Bool
  pub number : ℕ
  pub basis : Basis
  -- the beginning of the history that it has seen
  pub seen : List Entry
  -- its own calls
  pub mine : List Entry
  -- of pass 0: how many passes there have been, itself with them
  pub made : ℕ
  -- of pass 0: the passes that it retired, with their calls
  pub ended : List Ended

pub record NoteView : Type 0 where
  pub turnstile : TableId
  pub basis : Basis
  -- what its giver had seen
  pub seen : List Entry

-- the pass is of this turnstile and in no turn
abbrev pub IsIdleAt : TableId → PassView → Type 0
IsIdleAt t p = (p.turnstile ≡ t) × (p.idle ≡ true)

-- what a pass knows of what it has seen: it is lawful, its own calls are those of its number, no number that was not given out has a call, and of each retired number it has that pass's calls
pub record IsSound (law : Basis → List Entry → Type 0) (p : PassView) : Type 0 where
  pub lawful : law p.basis p.seen
  pub own : p.mine ≡ calls_by p.number p.seen
  pub unused : p.number ≡ 0 → (n : ℕ) → p.made ≤ n → calls_by n p.seen ≡ []
  pub retired : p.number ≡ 0 → (k : ℕ) (e : Ended) → get_elem? p.ended k ≡ some e → e.calls ≡ calls_by e.number p.seen

-- the same pass, which may have seen more and made calls
abbrev pub IsSamePass : PassView → PassView → Type 0
IsSamePass p q = (q.turnstile ≡ p.turnstile) × (q.number ≡ p.number) × (q.basis ≡ p.basis) × (q.made ≡ p.made) × (q.ended ≡ p.ended)

-- the pass 0 of a new turnstile
abbrev pub opening_pass : TableId → Basis → PassView
opening_pass t b = record { turnstile = t; idle = true; number = 0; basis = b; seen = []; mine = []; made = 1; ended = [] }

-- pass 0 after it has split off another, and the other
abbrev pub one_more : PassView → PassView
one_more p = record p { made = p.made + 1 }

abbrev pub new_pass : PassView → PassView
new_pass p = record { turnstile = p.turnstile; idle = true; number = p.made; basis = p.basis; seen = p.seen; mine = []; made = 0; ended = [] }

abbrev pub note_of : PassView → NoteView
note_of p = record { turnstile = p.turnstile; basis = p.basis; seen = p.seen }

-- how the seat of a pass or a note is seen
abbrev pub is_idle : Stage → Bool
is_idle Idle = true
is_idle (Waiting t) = false
is_idle (Served t) = false
is_idle (Loaded t) = false

abbrev pub pass_view : TableId → ℕ → View → PassView
pass_view t n v = record { turnstile = t; idle = is_idle v.stage; number = n; basis = v.basis; seen = v.seen; mine = v.mine; made = v.made; ended = v.ended }

abbrev pub note_view : TableId → View → NoteView
note_view t v = record { turnstile = t; basis = v.basis; seen = v.seen }

module _ {V : Type 0} where
  -- between calls a pass is idle, or in its turn, and then it has the slot, which is empty
  abbrev pub Carries : Stage → List (ℕ × Place V) → Type 0
  Carries Idle cs = cs ≡ []
  Carries (Waiting t) cs = ⊥
  Carries (Served t) cs = ⊥
  Carries (Loaded t) cs = cs ≡ (0, Empty) ∷ []

  abbrev pub HasNoValue : Place V → Type 0
  HasNoValue Empty = Unit {0}
  HasNoValue (Full x) = ⊥
  HasNoValue (Shown x) = Unit {0}

-- what the type of a pass keeps
pub record IsKept {V : Type 0} (law : Basis → List Entry → Type 0) (t : TableId) (number made : ℕ) (v : View) (cs : List (ℕ × Place V)) : Type 0 where
  pub role : v.role ≡ Caller number
  pub counts : v.made ≡ made
  pub sound : IsSound law (pass_view t number v)
  pub some_made : number ≡ 0 → 0 < v.made
  pub lives : number ≡ 0 → times 0 v.ended ≡ 0
  pub carries : Carries v.stage cs

pub record IsNoted {V : Type 0} (v : View) (cs : List (ℕ × Place V)) : Type 0 where
  pub role : v.role ≡ Noted
  pub idle : v.stage ≡ Idle
  pub empty : cs ≡ []
