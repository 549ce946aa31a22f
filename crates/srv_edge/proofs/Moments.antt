-- What a crash at any moment of a run of calls leaves.
use Rattle.std.proofs.Common.{◌≤◌, ℕ, List, ◌⊎◌, inl, inr, arith}
use Rattle.srv_edge.specs.Disk.{Elapses, Follows, LeavesOnly}

-- either of two cases gives this
either : {A B C : Type 0} → (A → C) → (B → C) → A ⊎ B → C
either f g (inl a) = f a
either f g (inr b) = g b

module _ {D : Type 0} (moment : D → ℕ) (left_since : D → ℕ → List ℕ → Type 0) where
  -- before the first call
  pub started : (old : D) (P images : List ℕ → Type 0) → ((c : List ℕ) → left_since old (moment old) c → images c) → ((c : List ℕ) → images c → P c) → LeavesOnly moment left_since old old P
  started old P images only has =
      record { later = omega arith; each = λ c left. has c (only c left); before = λ t c le left. inl left }

  -- one call more, after which a crash leaves what has P
  pub goes_on : (old mid new : D) (P images : List ℕ → Type 0) → LeavesOnly moment left_since old mid P → Elapses (moment mid) (moment new) (left_since mid) (left_since new) images → ((c : List ℕ) → images c → P c) → LeavesOnly moment left_since old new P
  goes_on old mid new P images run call has =
      record {
        later = omega (arith, run.later, call.later);
        each = λ c left. either (λ past. run.each c past) (λ now. has c now) (call.nothing_else (moment old) c run.later left);
        before = λ t c le left. either (λ past. run.before t c le past) (λ now. inr (has c now)) (call.nothing_else t c (omega (arith, le, run.later)) left);
      }

  -- a weaker fact of each file
  pub weaker : (old new : D) (P Q : List ℕ → Type 0) → LeavesOnly moment left_since old new P → ((c : List ℕ) → P c → Q c) → LeavesOnly moment left_since old new Q
  weaker old new P Q run less =
      record {
        later = run.later;
        each = λ c left. less c (run.each c left);
        before = λ t c le left. either (λ past. inl past) (λ has. inr (less c has)) (run.before t c le left);
      }

  -- one run after another
  pub joined : (old mid new : D) (P : List ℕ → Type 0) → LeavesOnly moment left_since old mid P → LeavesOnly moment left_since mid new P → LeavesOnly moment left_since old new P
  joined old mid new P one two =
      record {
        later = omega (arith, one.later, two.later);
        each = λ c left. either (λ past. one.each c past) (λ has. has) (two.before (moment old) c one.later left);
        before = λ t c le left. either (λ past. one.before t c le past) (λ has. inr has) (two.before t c (omega (arith, le, one.later)) left);
      }

  -- the images after a run are among what a crash since its start leaves
  pub holds_now : (old new : D) (P images : List ℕ → Type 0) → LeavesOnly moment left_since old new P → ((t : ℕ) (c : List ℕ) → t ≤ moment new → images c → left_since new t c) → (c : List ℕ) → images c → P c
  holds_now old new P images run counts c image = run.each c (counts (moment old) c run.later image)

-- what a step that spares P leaves
pub spared : (P : List ℕ → Type 0) (step : List ℕ → List ℕ → Type 0) (old new : List ℕ → Type 0) → ((c : List ℕ) → old c → P c) → ((d c : List ℕ) → P d → step d c → P c) → Follows step old new → (c : List ℕ) → new c → P c
spared P step old new has spares follows c image =
    let from = follows c image in spares from.0 c (has from.0 from.1) from.2
