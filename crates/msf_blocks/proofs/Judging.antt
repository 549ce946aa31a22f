-- What is told of a judgement, step by step.
use Rattle.std.proofs.Common.{◌≡◌, Bool, true, false, cond, List, ◌∷◌, Option, Some, None, Result, Ok, Err, refl, sym, ap, subst, ◌∙◌, IsErrAnd}
use Rattle.std.specs.Prelude.{IfSome}
use Rattle.std.specs.Option.{option_map}
use Rattle.msf_blocks.specs.Judging.{◌>>=◌, Tells, first_damage, told_by, unless}

-- one test more
pub was_passed : {D : Type 0} (b : Bool) (damage : D) (tests : List (Bool × D)) → first_damage ((b, damage) ∷ tests) ≡ None → (b ≡ true) × (first_damage tests ≡ None)
was_passed true damage tests e = (refl, e)
was_passed false damage tests e = absurd cc

pub is_passed : {D : Type 0} (b : Bool) (damage : D) (tests : List (Bool × D)) → b ≡ true → first_damage tests ≡ None → first_damage ((b, damage) ∷ tests) ≡ None
is_passed b damage tests e h = ap (λ c. cond c (first_damage tests) (Some damage)) e ∙ h

-- what was judged to be there
pub unless_ok : {A D : Type 0} (found : Option D) (x y : A) → unless found x ≡ Ok y → (found ≡ None) × (x ≡ y)
unless_ok None x y e = (refl, cc)
unless_ok (Some damage) x y e = absurd cc

pub unless_err : {A D : Type 0} (found : Option D) (x : A) (damage : D) → unless found x ≡ Err damage → found ≡ Some damage
unless_err None x damage e = absurd cc
unless_err (Some other) x damage e = let same : other ≡ damage = cc in ap Some same

pub bound_ok : {A B D : Type 0} (r : Result A D) (f : A → Result B D) (y : B) → (r >>= f) ≡ Ok y → (x : A) × (r ≡ Ok x) × (f x ≡ Ok y)
bound_ok (Ok x) f y e = (x, refl, e)
bound_ok (Err damage) f y e = absurd cc

pub told_by_ok : {A D E : Type 0} (f : D → E) (r : Result A D) (x : A) → told_by f r ≡ Ok x → r ≡ Ok x
told_by_ok f (Ok y) x e = let same : y ≡ x = cc in ap Ok same
told_by_ok f (Err damage) x e = absurd cc

-- ---- an answer that is a fault

if_some : {D : Type 0} (o : Option D) (P Q : D → Type 0) → IfSome o P → ((damage : D) → P damage → Q damage) → IfSome o Q
if_some None P Q is on = tt
if_some (Some damage) P Q is on = on damage is

if_below : {D E : Type 0} (o : Option E) (f : E → D) (P : E → Type 0) (Q : D → Type 0) → IfSome o P → ((damage : E) → P damage → Q (f damage)) → IfSome (option_map f o) Q
if_below None f P Q is on = tt
if_below (Some damage) f P Q is on = on damage is

-- a fault tells the damage in it
pub told_err : {X A F D : Type 0} (damage_in : F → Option D) (view : X → A) (r : Result X F) (judged : Result A D) (fault : F) → IsErrAnd r (λ x. x ≡ fault) → IfSome (damage_in fault) (λ damage. judged ≡ Err damage) → Tells damage_in view r judged
told_err damage_in view (Ok x) judged fault same is = absurd same
told_err damage_in view (Err other) judged fault same is = subst (λ f. IfSome (damage_in f) (λ damage. judged ≡ Err damage)) (sym same) is

-- the same fault of a judgement that goes on from another
pub told_on : {X A F D B : Type 0} (damage_in : F → Option D) (view : X → A) (fault : F) (r : Result X F) (judged : Result B D) (other : Result A D)
    → IsErrAnd r (λ x. x ≡ fault) → IfSome (damage_in fault) (λ damage. judged ≡ Err damage) → ((damage : D) → judged ≡ Err damage → other ≡ Err damage) → Tells damage_in view r other
told_on damage_in view fault r judged other same is on =
    told_err damage_in view r other fault same (if_some (damage_in fault) (λ damage. judged ≡ Err damage) (λ damage. other ≡ Err damage) is on)

-- a fault of a call below, told as one of this one
pub told_below : {X A F D G E B : Type 0} (damage_in : F → Option D) (damage_below : G → Option E) (as_damage : E → D) (as_fault : G → F) (view : X → A) (fault : G) (r : Result X F) (judged : Result B E) (other : Result A D)
    → ((f : G) → damage_in (as_fault f) ≡ option_map as_damage (damage_below f)) → IsErrAnd r (λ x. x ≡ as_fault fault) → IfSome (damage_below fault) (λ damage. judged ≡ Err damage)
    → ((damage : E) → judged ≡ Err damage → other ≡ Err (as_damage damage)) → Tells damage_in view r other
told_below damage_in damage_below as_damage as_fault view fault r judged other fits same is on =
    told_err damage_in view r other (as_fault fault) same (subst (λ o. IfSome o (λ damage. other ≡ Err damage)) (sym (fits fault)) (if_below (damage_below fault) as_damage (λ damage. judged ≡ Err damage) (λ damage. other ≡ Err damage) is on))

-- the only answer that a judgement gives at a damage
pub err_is : {A D : Type 0} (r judged : Result A D) (damage : D) → IsErrAnd r (λ x. x ≡ damage) → judged ≡ Err damage → r ≡ judged
err_is (Ok x) judged damage same is = absurd same
err_is (Err other) judged damage same is = ap Err same ∙ sym is
