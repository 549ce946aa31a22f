-- From the steps at the table to what a pass keeps and a caller learns.
use Rattle.std.proofs.Common.{◌≡◌, ◌≢◌, ℕ, ◌+◌, true, false, List, [], ◌∷◌, ◌++◌, length, sym, refl, ap, subst, ◌∙◌, arith}
use mathlib.Core.Option.{Option, some, some-injective}
use lib.ListN.{get_elem?}
use Rattle.atomic_table.specs.Table.{Me, Final, Seen, rest}
use Rattle.atomic_table.specs.Seated.{TableId}
use Rattle.turnstile.specs.declared.history.Entry.{Entry}
use Rattle.turnstile.specs.declared.history.Basis.{Basis}
use Rattle.turnstile.specs.declared.view.Place.{Place}
use Rattle.turnstile.specs.declared.view.Place.TheVariants.{Empty, Full}
use Rattle.turnstile.specs.declared.view.Role.TheVariants.{Caller}
use Rattle.turnstile.specs.declared.view.Stage.{Stage}
use Rattle.turnstile.specs.declared.view.Stage.TheVariants.{Idle, Waiting, Served, Loaded}
use Rattle.turnstile.specs.declared.view.View.{View}
use Rattle.turnstile.specs.Histories.{caller}
use Rattle.turnstile.specs.Views.{filed}
use Rattle.turnstile.specs.Orderly.{Orderly}
use Rattle.turnstile.specs.Passes.{IsKept, Carries, PassView, is_idle, pass_view}
use Rattle.turnstile.proofs.Beginnings.{own_call, other_call}
use Rattle.turnstile.proofs.Counts.{not_times}
use Rattle.turnstile.proofs.Tellings.{Ends, ends}

pub idle_is : (s : Stage) → is_idle s ≡ true → s ≡ Idle
idle_is Idle e = refl
idle_is (Waiting t) e = cc
idle_is (Served t) e = cc
idle_is (Loaded t) e = cc

module _ {V : Type 0} where
  pub loaded_is : (s : Stage) (cs : List (ℕ × Place V)) → is_idle s ≡ false → Carries s cs → (t : ℕ) × (s ≡ Loaded t) × (cs ≡ (0, Empty) ∷ [])
  loaded_is Idle cs e c = cc
  loaded_is (Waiting t) cs e c = absurd c
  loaded_is (Served t) cs e c = absurd c
  loaded_is (Loaded t) cs e c = (t, refl, c)

  pub idle_carries : (s : Stage) (cs : List (ℕ × Place V)) → is_idle s ≡ true → Carries s cs → cs ≡ []
  idle_carries Idle cs e c = c
  idle_carries (Waiting t) cs e c = absurd c
  idle_carries (Served t) cs e c = absurd c
  idle_carries (Loaded t) cs e c = cc

  -- a pass that has filed an entry keeps what it kept
  pub filed_keeps : (law : Basis → List Entry → Type 0) (z : TableId) (n m : ℕ) (v : View) (cs : List (ℕ × Place V)) (e : Entry) → IsKept law z n m v cs → caller e ≡ n → law v.basis (v.seen ++ e ∷ []) → IsKept law z n m (filed e v) cs
  filed_keeps law z n m v cs e k own lawful = record {
    role = k.role;
    counts = k.counts;
    sound = record {
      lawful = lawful;
      own = ap (λ (l : List Entry). l ++ e ∷ []) k.sound.own ∙ sym (own_call n v.seen e own);
      unused = λ zero j le. other_call j v.seen e (λ (q : caller e ≡ j). let a = k.some_made zero in let b : n ≡ j = sym own ∙ q in absurd (omega arith)) ∙ k.sound.unused zero j le;
      retired = λ zero j x at. let ne : x.number ≢ 0 = not_times 0 v.ended j x (k.lives zero) at in k.sound.retired zero j x at ∙ sym (other_call x.number v.seen e (λ (q : caller e ≡ x.number). ne (sym q ∙ own ∙ zero)));
    };
    some_made = k.some_made;
    lives = k.lives;
    carries = k.carries;
  }

  pub files_as : (law : Basis → List Entry → Type 0) (z y : TableId) (n m : ℕ) (me after : Me (Place V) View) (p : PassView) (e : Entry) (base : Basis) (log : List Entry) → IsKept law z n m me.0 me.1 → y ≡ z → after ≡ (filed e me.0, me.1) → pass_view z n me.0 ≡ p → base ≡ p.basis → log ≡ p.seen ++ e ∷ [] → caller e ≡ p.number → law base log
      → IsKept law y n m after.0 after.1
  files_as law z y n m me after p e base log k same becomes view same_base same_log own lawful =
      let here : law me.0.basis (me.0.seen ++ e ∷ []) = subst (law me.0.basis) (same_log ∙ ap (λ (q : PassView). q.seen ++ e ∷ []) (sym view)) (subst (λ (b : Basis). law b log) (same_base ∙ ap (λ (q : PassView). q.basis) (sym view)) lawful) in
      let kept : IsKept law z n m (filed e me.0) me.1 = filed_keeps law z n m me.0 me.1 e k (own ∙ ap (λ (q : PassView). q.number) (sym view)) here in
      subst (λ (w : Me (Place V) View). IsKept law y n m w.0 w.1) (sym becomes) (subst (λ (w : TableId). IsKept law w n m (filed e me.0) me.1) (sym same) kept)

  -- the slot that a seat took last is the first of those that it holds
  pub taken_first : (cs ds : List (ℕ × Place V)) (y : Place V) → cs ≡ (0, y) ∷ ds → (x : Place V) × (cs ≡ (0, x) ∷ rest cs)
  taken_first cs ds y e = (y, e ∙ ap (λ (r : List (ℕ × Place V)). (0, y) ∷ r) (sym (ap rest e)))

  -- what a closed turnstile's slot has
  pub closes : (basis : V → Basis) (entries : V → List Entry) (law : Basis → List Entry → Type 0) (start : Basis) (z : TableId) (id n : ℕ) (v : View) (p : PassView) (ws : List ℕ) (xs : List (Place V)) (place : Place V) → Final (Seen (Orderly basis entries law start) id v) ws xs → pass_view z n v ≡ p → v.role ≡ Caller n → p.number ≡ 0 → p.idle ≡ true → length p.ended + 1 ≡ p.made → get_elem? xs 0 ≡ some place
      → (x : V) × (place ≡ Full x) × Ends basis entries law p x
  closes basis entries law start z id n v p ws xs place final view role first idle retired got =
      let zero : v.role ≡ Caller 0 = role ∙ ap Caller (ap (λ (q : PassView). q.number) view ∙ first) in
      let free : v.stage ≡ Idle = idle_is v.stage (ap (λ (q : PassView). q.idle) view ∙ idle) in
      let all : length v.ended + 1 ≡ v.made = subst (λ (q : PassView). length q.ended + 1 ≡ q.made) (sym view) retired in
      let e = ends basis entries law start final.0 final.1.0 id v final.1.1 zero free all z n in
      let home : get_elem? xs 0 ≡ some (Full e.0) = final.4 0 (Full e.0) (ap (λ (hs : List (Option (Place V))). get_elem? hs 0) e.1) in
      (e.0, some-injective place (Full e.0) (sym got ∙ home), subst (λ (q : PassView). Ends basis entries law q e.0) view e.2)

  pub closes_with : (basis : V → Basis) (entries : V → List Entry) (law : Basis → List Entry → Type 0) (p : PassView) (place : Place V) (r : V) → (x : V) × (place ≡ Full x) × Ends basis entries law p x → place ≡ Full r → Ends basis entries law p r
  closes_with basis entries law p place r e is = let same : e.0 ≡ r = full_same e.0 r (sym e.1 ∙ is) in subst (Ends basis entries law p) same e.2 where
    full_same : (x y : V) → Full x ≡ Full y → x ≡ y
    full_same x y q = cc
