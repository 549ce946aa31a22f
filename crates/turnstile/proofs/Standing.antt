-- Of a state that meets the rule: who is alone with its number, with its ticket, with the value. And what stays of the rule where one view changes.
use Rattle.std.proofs.Common.{◌≡◌, ◌≢◌, ℕ, suc, ◌+◌, ◌*◌, ◌/◌, ◌%◌, ◌<◌, ◌≤◌, List, [], ◌∷◌, ◌++◌, length, set, sym, refl, ap, subst, ◌∙◌, ⊎_elim, arith}
use Rattle.std.proofs.Math.Nat.{mod-add-div, add-mul-mod_self_left}
use mathlib.Core.Option.{some}
use lib.ListN.{get_elem?}
use native.Mathlib.Decide.{ℕ_discrete}
use mathlib.Core.Logic.{dite}
use Rattle.atomic_table.proofs.Lists.{at_set, at_snoc}
use Rattle.turnstile.specs.declared.history.Entry.{Entry}
use Rattle.turnstile.specs.declared.history.Basis.{Basis}
use Rattle.turnstile.specs.declared.view.Ended.{Ended}
use Rattle.turnstile.specs.declared.view.Role.{Role}
use Rattle.turnstile.specs.declared.view.Role.TheVariants.{Caller, Noted, Spent}
use Rattle.turnstile.specs.declared.view.Stage.{Stage}
use Rattle.turnstile.specs.declared.view.Stage.TheVariants.{Idle, Waiting, Served, Loaded}
use Rattle.turnstile.specs.declared.view.View.{View}
use Rattle.turnstile.specs.Views.{total, once_if, numbers_as, lives, has_ticket, waits, has_value, numbered, alive, ticketed, queued, loaded, times, staged, saw}
use Rattle.turnstile.specs.Orderly.{InTurn, Fits, IsHistory, IsRoll, IsLine}
use Rattle.turnstile.proofs.Counts.{once_yes, once_no, total_set, total_same, share, shares, total_le, total_less}
use Rattle.turnstile.proofs.Beginnings.{begins_self}

-- the next number of a word that counts
pub mod_next : (a n : ℕ) → (a % n + 1) % n ≡ (a + 1) % n
mod_next a n =
    let p : a % n + n * (a / n) ≡ a = mod-add-div a n in
    let q : (a % n + 1) + n * (a / n) ≡ a + 1 = omega arith in
    sym (add-mul-mod_self_left (a % n + 1) n (a / n)) ∙ ap (λ (k : ℕ). k % n) q

-- each view has a property where the new one has it, and the others have it
pub each_set : (P : View → Type 0) (views : List View) (i : ℕ) (w : View) → P w → ((j : ℕ) (u : View) → j ≢ i → get_elem? views j ≡ some u → P u) → (j : ℕ) (u : View) → get_elem? (set views i w) j ≡ some u → P u
each_set P views i w new old j u at = ⊎_elim (λ t. subst P t.1 new) (λ t. old j u t.0 t.1) (at_set views i j w u at)

pub each_snoc : (P : View → Type 0) (views : List View) (w : View) → P w → ((j : ℕ) (u : View) → get_elem? views j ≡ some u → P u) → (j : ℕ) (u : View) → get_elem? (views ++ w ∷ []) j ≡ some u → P u
each_snoc P views w new old j u at = ⊎_elim (λ t. old j u t) (λ t. subst P t new) (at_snoc views w u j at)

-- whoever has the value has the ticket that is served
loaded_ticket : (log : List Entry) (serving : ℕ) (seen : List Entry) (s : Stage) → InTurn log serving seen s → has_value s ≤ has_ticket serving s
loaded_ticket log serving seen Idle t = omega arith
loaded_ticket log serving seen (Waiting u) t = omega arith
loaded_ticket log serving seen (Served u) t = omega arith
loaded_ticket log serving seen (Loaded u) t = let a : once_if u serving ≡ 1 = once_yes u serving t.0 in omega arith

pub value_waits : (s : Stage) → has_value s ≤ waits s
value_waits Idle = omega arith
value_waits (Waiting u) = omega arith
value_waits (Served u) = omega arith
value_waits (Loaded u) = omega arith

pub number_lives : (n : ℕ) (r : Role) → numbers_as n r ≤ lives r
number_lives n (Caller m) = dite (ℕ_discrete m n) (λ e. let a : once_if m n ≡ 1 = once_yes m n e in omega arith) (λ e. let a : once_if m n ≡ 0 = once_no m n e in omega arith)
number_lives n Noted = omega arith
number_lives n Spent = omega arith

pub numbers_itself : (n : ℕ) (r : Role) → r ≡ Caller n → numbers_as n r ≡ 1
numbers_itself n r e = ap (numbers_as n) e ∙ once_yes n n refl

module _ (law : Basis → List Entry → Type 0) (start : Basis) (log : List Entry) (serving waiting made : ℕ) (ended : List Ended) (views : List View) where
  -- at most 255 passes wait
  pub few_wait : ((j : ℕ) (v : View) → get_elem? views j ≡ some v → Fits law start log serving made ended v) → IsRoll made ended views → IsLine serving waiting views → waiting ≤ 255
  few_wait each roll line =
      let a : total queued views ≤ total alive views = total_le queued alive views (λ j v at. (each j v at).passes_wait) in
      let b = roll.living in
      let c = roll.few in
      let d = line.in_line in
      omega arith

  -- the pass of a ticket stands in line
  pub in_line : IsLine serving waiting views → (i t : ℕ) (v : View) → get_elem? views i ≡ some v → has_ticket t v.stage ≡ 1 → (serving ≤ t) × (t < serving + waiting)
  in_line line i t v at has =
      let a : ticketed t v ≤ total (ticketed t) views = share (ticketed t) views i v at in
      let b = line.old_tickets t in
      let c = line.new_tickets t in
      (grind arith, grind arith)

  served_once : IsLine serving waiting views → total (ticketed serving) views ≤ 1
  served_once line = let a = line.tickets serving in let b = line.new_tickets serving in grind arith

  -- beside the pass that is served no other is
  pub alone : IsLine serving waiting views → (i j : ℕ) (v u : View) → i ≢ j → get_elem? views i ≡ some v → get_elem? views j ≡ some u → has_ticket serving v.stage ≡ 1 → has_ticket serving u.stage ≡ 0
  alone line i j v u n at at' has =
      let a : ticketed serving v + ticketed serving u ≤ total (ticketed serving) views = shares (ticketed serving) views i j v u n at at' in
      let b : total (ticketed serving) views ≤ 1 = served_once line in
      omega arith

  value_served : ((j : ℕ) (v : View) → get_elem? views j ≡ some v → Fits law start log serving made ended v) → (j : ℕ) (v : View) → get_elem? views j ≡ some v → loaded v ≤ ticketed serving v
  value_served each j v at = loaded_ticket log serving v.seen v.stage (each j v at).in_turn

  -- at most one pass has the value, and none while another is served
  pub value_once : ((j : ℕ) (v : View) → get_elem? views j ≡ some v → Fits law start log serving made ended v) → IsLine serving waiting views → total loaded views ≤ 1
  value_once each line =
      let a : total loaded views ≤ total (ticketed serving) views = total_le loaded (ticketed serving) views (value_served each) in
      let b : total (ticketed serving) views ≤ 1 = served_once line in
      omega arith

  pub value_home : ((j : ℕ) (v : View) → get_elem? views j ≡ some v → Fits law start log serving made ended v) → IsLine serving waiting views → (i : ℕ) (v : View) → get_elem? views i ≡ some v → has_value v.stage ≡ 0 → has_ticket serving v.stage ≡ 1 → total loaded views ≡ 0
  value_home each line i v at empty has =
      let l : loaded v < ticketed serving v = omega arith in
      let a : total loaded views < total (ticketed serving) views = total_less loaded (ticketed serving) views i v (value_served each) at l in
      let b : total (ticketed serving) views ≤ 1 = served_once line in
      omega arith

  -- a pass's number was given out, to it alone, and it is not retired
  pub made_once : IsRoll made ended views → (i n : ℕ) (v : View) → get_elem? views i ≡ some v → v.role ≡ Caller n → (n < made) × (times n ended ≡ 0)
  made_once roll i n v at r =
      let a : numbered n v ≤ total (numbered n) views = share (numbered n) views i v at in
      let b : numbered n v ≡ 1 = numbers_itself n v.role r in
      let c = roll.numbers n in
      let d = roll.no_numbers n in
      (grind arith, grind arith)

  pub other_number : IsRoll made ended views → (i j n m : ℕ) (v u : View) → i ≢ j → get_elem? views i ≡ some v → get_elem? views j ≡ some u → v.role ≡ Caller n → u.role ≡ Caller m → m ≢ n
  other_number roll i j n m v u ne at at' r q = λ same.
      let a : numbered n v + numbered n u ≤ total (numbered n) views = shares (numbered n) views i j v u ne at at' in
      let b : numbered n v ≡ 1 = numbers_itself n v.role r in
      let d : numbered n u ≡ 1 = numbers_itself n u.role (q ∙ ap Caller same) in
      let e = roll.numbers n in
      let f = roll.no_numbers n in
      absurd (grind arith)

  -- a pass that changes, and keeps its number
  pub roll_kept : IsRoll made ended views → (i : ℕ) (v w : View) → get_elem? views i ≡ some v → w.role ≡ v.role → IsRoll made ended (set views i w)
  roll_kept roll i v w at r = record {
    numbers = λ n l. ap (λ (k : ℕ). k + times n ended) (total_same (numbered n) views i v w at (ap (numbers_as n) r)) ∙ roll.numbers n l;
    no_numbers = λ n l. ap (λ (k : ℕ). k + times n ended) (total_same (numbered n) views i v w at (ap (numbers_as n) r)) ∙ roll.no_numbers n l;
    living = ap (λ (k : ℕ). k + length ended) (total_same alive views i v w at (ap lives r)) ∙ roll.living;
    few = roll.few;
  }

  -- and keeps its place in line
  pub line_kept : IsLine serving waiting views → (i : ℕ) (v w : View) → get_elem? views i ≡ some v → waits w.stage ≡ waits v.stage → ((t : ℕ) → has_ticket t w.stage ≡ has_ticket t v.stage) → IsLine serving waiting (set views i w)
  line_kept line i v w at p q = record {
    in_line = total_same queued views i v w at p ∙ line.in_line;
    tickets = λ t a b. total_same (ticketed t) views i v w at (q t) ∙ line.tickets t a b;
    old_tickets = λ t a. total_same (ticketed t) views i v w at (q t) ∙ line.old_tickets t a;
    new_tickets = λ t a. total_same (ticketed t) views i v w at (q t) ∙ line.new_tickets t a;
  }

  -- a pass that draws the next ticket
  pub line_longer : IsLine serving waiting views → (i : ℕ) (v : View) → get_elem? views i ≡ some v → v.stage ≡ Idle → IsLine serving (suc waiting) (set views i (staged (Waiting (serving + waiting)) v))
  line_longer line i v at idle =
      let w : View = staged (Waiting (serving + waiting)) v in
      let grows : (t : ℕ) → total (ticketed t) (set views i w) + has_ticket t v.stage ≡ total (ticketed t) views + once_if (serving + waiting) t = λ t. total_set (ticketed t) views i v w at in
      let idle_ticket : (t : ℕ) → has_ticket t v.stage ≡ 0 = λ t. ap (has_ticket t) idle in
      let other : (t : ℕ) → (serving + waiting) ≢ t → total (ticketed t) (set views i w) ≡ total (ticketed t) views = λ t ne. let a = grows t in let b = idle_ticket t in let d : once_if (serving + waiting) t ≡ 0 = once_no (serving + waiting) t ne in omega arith in
      record {
        in_line = (let a : total queued (set views i w) + waits v.stage ≡ total queued views + 1 = total_set queued views i v w at in let b : waits v.stage ≡ 0 = ap waits idle in let d = line.in_line in omega arith);
        tickets = λ t a b. dite (ℕ_discrete (serving + waiting) t)
            (λ e. let f = grows t in let g = idle_ticket t in let h : once_if (serving + waiting) t ≡ 1 = once_yes (serving + waiting) t e in let k = line.new_tickets t in omega arith)
            (λ ne. other t ne ∙ line.tickets t a (let lt : t < serving + waiting = omega arith in lt));
        old_tickets = λ t a. other t (λ e. absurd (omega arith)) ∙ line.old_tickets t a;
        new_tickets = λ t a. other t (λ e. absurd (omega arith)) ∙ line.new_tickets t (omega arith);
      }

  -- the pass that is served leaves
  pub line_shorter : IsLine serving (suc waiting) views → (i : ℕ) (v : View) → get_elem? views i ≡ some v → v.stage ≡ Loaded serving → IsLine (suc serving) waiting (set views i (staged Idle v))
  line_shorter line i v at has =
      let w : View = staged Idle v in
      let falls : (t : ℕ) → total (ticketed t) (set views i w) + has_ticket t v.stage ≡ total (ticketed t) views + 0 = λ t. total_set (ticketed t) views i v w at in
      let ticket : (t : ℕ) → has_ticket t v.stage ≡ once_if serving t = λ t. ap (has_ticket t) has in
      let other : (t : ℕ) → serving ≢ t → total (ticketed t) (set views i w) ≡ total (ticketed t) views = λ t ne. let a = falls t in let b = ticket t in let d : once_if serving t ≡ 0 = once_no serving t ne in omega arith in
      record {
        in_line = (let a : total queued (set views i w) + waits v.stage ≡ total queued views + 0 = total_set queued views i v w at in let b : waits v.stage ≡ 1 = ap waits has in let d = line.in_line in omega arith);
        tickets = λ t a b. other t (λ e. absurd (omega arith)) ∙ line.tickets t (omega arith) (omega arith);
        old_tickets = λ t a. dite (ℕ_discrete serving t)
            (λ e. let f = falls t in let g = ticket t in let h : once_if serving t ≡ 1 = once_yes serving t e in let k = line.tickets t in omega arith)
            (λ ne. other t ne ∙ line.old_tickets t (omega arith));
        new_tickets = λ t a. other t (λ e. absurd (omega arith)) ∙ line.new_tickets t (omega arith);
      }

  -- another stage with the same place in line, and the whole history seen
  pub fits_staged : (s : Stage) (v : View) → Fits law start log serving made ended v → waits s ≤ lives v.role → InTurn log serving v.seen s → Fits law start log serving made ended (staged s v)
  fits_staged s v f w t = record {
    informed = λ r. let i = f.informed r in record { basis = i.basis; seen = i.seen; was = i.was; told = i.told; lawful = i.lawful };
    calls = λ n r. let c = f.calls n r in record { all = c.all; seen = c.seen; first = λ z. let k = c.first z in record { counts = k.counts; lists = k.lists; ended_seen = k.ended_seen } };
    passes_wait = w;
    in_turn = t;
  }

  pub fits_saw : IsHistory law start log made ended → (v : View) → Fits law start log serving made ended v → InTurn log serving log v.stage → Fits law start log serving made ended (saw log v)
  fits_saw history v f t = record {
    informed = λ r. let i = f.informed r in record { basis = i.basis; seen = begins_self log; was = i.was; told = i.told; lawful = history.lawful };
    calls = λ n r. let c = f.calls n r in record { all = c.all; seen = c.all; first = λ z. let k = c.first z in record { counts = k.counts; lists = k.lists; ended_seen = history.retired } };
    passes_wait = f.passes_wait;
    in_turn = t;
  }
