-- Tests in their order: the first that is not passed gives the damage.
use Rattle.std.specs.Prelude.{◌≡◌, Bool, List, [], ◌∷◌, if◌then◌else◌, Option, Some, None, Result, Ok, Err, IfSome}

-- the damage of the first test that is not passed
abbrev pub first_damage : {D : Type 0} → List (Bool × D) → Option D
first_damage [] = None
first_damage (test ∷ tests) = if test.0 then first_damage tests else Some test.1

-- a value, unless there is a damage
abbrev pub unless : {A D : Type 0} → Option D → A → Result A D
unless None x = Ok x
unless (Some damage) x = Err damage

-- what comes first decides: its damage, or what is judged behind
infixl 10 ◌>>=◌
abbrev pub ◌>>=◌ : {A B D : Type 0} → Result A D → (A → Result B D) → Result B D
(Ok x) >>= f = f x
(Err damage) >>= f = Err damage

-- the same judgement, its damage as one of another kind
abbrev pub told_by : {A D E : Type 0} → (D → E) → Result A D → Result A E
told_by f (Ok x) = Ok x
told_by f (Err damage) = Err (f damage)

-- What a function answered, seen by view, is what is judged, unless it answered a fault that is no damage, as a disk
-- fault or want of memory.
abbrev pub Tells : {X A F D : Type 0} → (F → Option D) → (X → A) → Result X F → Result A D → Type 0
Tells damage_in view (Ok x) judged = judged ≡ Ok (view x)
Tells damage_in view (Err fault) judged = IfSome (damage_in fault) (λ damage. judged ≡ Err damage)
