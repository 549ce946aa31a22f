-- Views: how a view counts in sums over all views, and how each step changes it.
use Rattle.std.specs.Prelude.{ℕ, ◌+◌, ◌==◌, List, [], ◌∷◌, ◌++◌, if◌then◌else◌}
use Rattle.turnstile.specs.declared.history.Entry.{Entry}
use Rattle.turnstile.specs.declared.view.Ended.{Ended}
use Rattle.turnstile.specs.declared.view.Role.{Role}
use Rattle.turnstile.specs.declared.view.Role.TheVariants.{Caller, Noted, Spent}
use Rattle.turnstile.specs.declared.view.Stage.{Stage}
use Rattle.turnstile.specs.declared.view.Stage.TheVariants.{Idle, Waiting, Served, Loaded}
use Rattle.turnstile.specs.declared.view.View.{View}
use Rattle.turnstile.specs.declared.history.Basis.{Basis}
use Rattle.turnstile.specs.Histories.{longer}

-- f of each view, added up
abbrev pub total : (View → ℕ) → List View → ℕ
total f [] = 0
total f (v ∷ vs) = f v + total f vs

abbrev pub once_if : ℕ → ℕ → ℕ
once_if a b = if a == b then 1 else 0

-- 1 for a pass of the number n
abbrev pub numbers_as : ℕ → Role → ℕ
numbers_as n (Caller m) = once_if m n
numbers_as n Noted = 0
numbers_as n Spent = 0

-- 1 for a pass
abbrev pub lives : Role → ℕ
lives (Caller m) = 1
lives Noted = 0
lives Spent = 0

-- 1 for a pass that has drawn the ticket t and not used it up
abbrev pub has_ticket : ℕ → Stage → ℕ
has_ticket t Idle = 0
has_ticket t (Waiting u) = once_if u t
has_ticket t (Served u) = once_if u t
has_ticket t (Loaded u) = once_if u t

-- 1 for a pass with any ticket
abbrev pub waits : Stage → ℕ
waits Idle = 0
waits (Waiting u) = 1
waits (Served u) = 1
waits (Loaded u) = 1

-- 1 for a pass that has the value
abbrev pub has_value : Stage → ℕ
has_value Idle = 0
has_value (Waiting u) = 0
has_value (Served u) = 0
has_value (Loaded u) = 1

abbrev pub numbered : ℕ → View → ℕ
numbered n v = numbers_as n v.role

abbrev pub alive : View → ℕ
alive v = lives v.role

abbrev pub ticketed : ℕ → View → ℕ
ticketed t v = has_ticket t v.stage

abbrev pub queued : View → ℕ
queued v = waits v.stage

abbrev pub loaded : View → ℕ
loaded v = has_value v.stage

-- how many of the retired passes had the number n
abbrev pub times : ℕ → List Ended → ℕ
times n [] = 0
times n (e ∷ es) = once_if e.number n + times n es

abbrev pub number_of : Role → ℕ
number_of (Caller n) = n
number_of Noted = 0
number_of Spent = 0

-- the pass stands at another stage
abbrev pub staged : Stage → View → View
staged s v = record v { stage = s }

-- the pass has seen this history
abbrev pub saw : List Entry → View → View
saw log v = record v { seen = log }

-- the pass has filed this entry
abbrev pub filed : Entry → View → View
filed e v = record v { seen = v.seen ++ e ∷ []; mine = v.mine ++ e ∷ [] }

-- the first pass has split off one more
abbrev pub after_split : View → View
after_split v = record v { made = v.made + 1 }

-- the view of a role, which has seen this and made no call
abbrev pub newcomer : Role → Basis → List Entry → View
newcomer r b seen = record { role = r; basis = b; seen = seen; was = []; told = []; mine = []; stage = Idle; made = 0; ended = [] }

abbrev pub first_view : Basis → View
first_view b = record { role = Caller 0; basis = b; seen = []; was = []; told = []; mine = []; stage = Idle; made = 1; ended = [] }

abbrev pub split_off : View → View
split_off v = newcomer (Caller v.made) v.basis v.seen

abbrev pub noted : View → View
noted v = newcomer Noted v.basis v.seen

-- the pass has taken in what the other had seen
abbrev pub informed : View → View → View
informed v w = record v { seen = longer v.seen w.seen; was = v.seen; told = w.seen }

-- and the other's number and calls
abbrev pub retiring : View → View → View
retiring v w = record v { seen = longer v.seen w.seen; was = v.seen; told = w.seen; ended = v.ended ++ record { number = number_of w.role; calls = w.mine } ∷ [] }

-- what is left of a view that another has taken in
abbrev pub spent : View
spent = newcomer Spent (record { numbers = []; types = []; items = []; names = [] }) []
