-- The first state meets the rule, new passes, notes and joins keep it, and what it says at the end.
use Rattle.std.proofs.Common.{◌≡◌, ◌≢◌, ℕ, zero, suc, ◌+◌, ◌<◌, ◌≤◌, List, [], ◌∷◌, ◌++◌, length, set, sym, refl, ap, subst, ◌∙◌, ⊎_elim, arith, length-append}
use mathlib.Core.Option.{some, some-injective, some-ne-none}
use lib.ListN.{get_elem?}
use native.Mathlib.Decide.{ℕ_discrete}
use mathlib.Core.Logic.{dite}
use Rattle.atomic_table.proofs.Lists.{at_snoc, set_else}
use Rattle.atomic_table.specs.Table.{State, Splits, Joins, opening}
use Rattle.turnstile.specs.declared.history.Entry.{Entry}
use Rattle.turnstile.specs.declared.history.Basis.{Basis}
use Rattle.turnstile.specs.declared.view.Ended.{Ended}
use Rattle.turnstile.specs.declared.view.Place.{Place}
use Rattle.turnstile.specs.declared.view.Place.TheVariants.{Full}
use Rattle.turnstile.specs.declared.view.Role.{Role}
use Rattle.turnstile.specs.declared.view.Role.TheVariants.{Caller, Noted, Spent}
use Rattle.turnstile.specs.declared.view.Stage.TheVariants.{Idle}
use Rattle.turnstile.specs.declared.view.View.{View}
use Rattle.turnstile.specs.Histories.{Begins, calls_by, longer}
use Rattle.turnstile.specs.Views.{total, once_if, numbers_as, lives, has_ticket, waits, has_value, numbered, alive, ticketed, queued, loaded, times, number_of, after_split, newcomer, first_view, split_off, noted, informed, retiring, spent}
use Rattle.atomic_table.specs.Seated.{TableId}
use Rattle.turnstile.specs.Passes.{PassView, pass_view}
use Rattle.turnstile.specs.Orderly.{InTurn, IsInformed, Fits, IsLine, Shelved, Orderly}
use Rattle.turnstile.proofs.Counts.{once_yes, once_no, total_set, total_same, total_snoc, total_less, times_snoc}
use Rattle.turnstile.proofs.Beginnings.{begins_self, none_before, between, longer_is, left_begins, right_begins}
use Rattle.turnstile.proofs.Standing.{each_set, each_snoc, made_once, other_number, roll_kept, line_kept, number_lives, value_waits}

-- a view that is idle and no pass changes no place in line
module _ (serving waiting : ℕ) (views : List View) where
  line_snoc : IsLine serving waiting views → (w : View) → w.stage ≡ Idle → IsLine serving waiting (views ++ w ∷ [])
  line_snoc line w idle =
      let q : (t : ℕ) → total (ticketed t) (views ++ w ∷ []) ≡ total (ticketed t) views = λ t. let a : total (ticketed t) (views ++ w ∷ []) ≡ total (ticketed t) views + has_ticket t w.stage = total_snoc (ticketed t) views w in let b : has_ticket t w.stage ≡ 0 = ap (has_ticket t) idle in omega arith in
      record {
        in_line = (let a : total queued (views ++ w ∷ []) ≡ total queued views + waits w.stage = total_snoc queued views w in let b : waits w.stage ≡ 0 = ap waits idle in let c = line.in_line in omega arith);
        tickets = λ t a b. q t ∙ line.tickets t a b;
        old_tickets = λ t a. q t ∙ line.old_tickets t a;
        new_tickets = λ t a. q t ∙ line.new_tickets t a;
      }

module _ (law : Basis → List Entry → Type 0) (start : Basis) (log : List Entry) (serving made : ℕ) (ended : List Ended) where
  -- a view whose facts of calls are those of another number of passes, or another list of the retired
  fits_others : (m : ℕ) (es : List Ended) (u : View) → Fits law start log serving made ended u → ((n : ℕ) → u.role ≡ Caller n → n ≢ 0) → Fits law start log serving m es u
  fits_others m es u f other = record {
    informed = f.informed;
    calls = λ n r. let c = f.calls n r in record { all = c.all; seen = c.seen; first = λ z. absurd (other n r z) };
    passes_wait = f.passes_wait;
    in_turn = f.in_turn;
  }

  -- a view that comes, and has seen what a view of the table has
  fits_newcomer : (m : ℕ) (es : List Ended) (v : View) (r : Role) → IsInformed law start log v → ((n : ℕ) → r ≡ Caller n → (n ≢ 0) × (calls_by n log ≡ [])) → Fits law start log serving m es (newcomer r v.basis v.seen)
  fits_newcomer m es v r i new = record {
    informed = λ live. record { basis = i.basis; seen = i.seen; was = record { rest = log; whole = refl }; told = record { rest = log; whole = refl }; lawful = i.lawful };
    calls = λ n e. let c = new n e in record { all = sym c.1; seen = sym (none_before n v.seen log i.seen c.1); first = λ z. absurd (c.0 z) };
    passes_wait = (let h : 0 ≤ lives r = omega arith in h);
    in_turn = tt;
  }

  fits_spent : (m : ℕ) (es : List Ended) → Fits law start log serving m es spent
  fits_spent m es = record { informed = λ live. absurd (live refl); calls = λ n e. let h : Spent ≡ Caller n = e in cc; passes_wait = (let h : 0 ≤ 0 = omega arith in h); in_turn = tt }

  -- a pass that takes in what another view had seen: the longer of the two, and both kept
  told_more : (v w : View) → IsInformed law start log v → IsInformed law start log w → IsInformed law start log (informed v w)
  told_more v w i j = record {
    basis = i.basis;
    seen = longer_is (λ (l : List Entry). Begins l log) v.seen w.seen i.seen j.seen;
    was = i.seen;
    told = j.seen;
    lawful = longer_is (law start) v.seen w.seen i.lawful j.lawful;
  }

  calls_longer : (n : ℕ) (a b : List Entry) → Begins a log → Begins b log → calls_by n a ≡ calls_by n log → calls_by n (longer a b) ≡ calls_by n log
  calls_longer n a b p q same = between n a (longer a b) log (left_begins a b log p q) (longer_is (λ (l : List Entry). Begins l log) a b p q) same

  calls_longer_right : (n : ℕ) (a b : List Entry) → Begins a log → Begins b log → calls_by n b ≡ calls_by n log → calls_by n (longer a b) ≡ calls_by n log
  calls_longer_right n a b p q same = between n b (longer a b) log (right_begins a b log p q) (longer_is (λ (l : List Entry). Begins l log) a b p q) same

module _ {V : Type 0} (basis : V → Basis) (entries : V → List Entry) (law : Basis → List Entry → Type 0) (start : Basis) where
  opens : (x : V) (bells : List ℕ) → basis x ≡ start → entries x ≡ [] → law (basis x) (entries x) → Orderly basis entries law start (opening (0 ∷ 0 ∷ 0 ∷ bells) (Full x ∷ []) (first_view start))
  opens x bells base empty lawful =
      let first_law : law start [] = subst (λ (b : Basis). law b []) base (subst (law (basis x)) empty lawful) in
      record {
        log = [];
        serving = 0;
        waiting = 0;
        bells = bells;
        made = 1;
        ended = [];
        words = refl;
        history = record { lawful = first_law; short = omega arith; no_calls = λ n le. refl; retired = λ k e at. absurd (some-ne-none e (sym at)) };
        each = λ j v at. first_fits j v at first_law;
        roll = record {
          numbers = λ n l. (let z : 0 ≡ n = omega arith in let a : once_if 0 n ≡ 1 = once_yes 0 n z in omega arith);
          no_numbers = λ n l. (let a : once_if 0 n ≡ 0 = once_no 0 n (λ z. absurd (omega arith)) in omega arith);
          living = refl;
          few = omega arith;
        };
        line = record { in_line = refl; tickets = λ t a b. absurd (omega arith); old_tickets = λ t a. refl; new_tickets = λ t a. refl };
        shelved = (x, refl, base, empty);
      }
    where
      first_fits : (j : ℕ) (v : View) → get_elem? (first_view start ∷ []) j ≡ some v → law start [] → Fits law start [] 0 1 [] v
      first_fits zero v at l = subst (Fits law start [] 0 1 []) (some-injective (first_view start) v at) (record {
        informed = λ live. record { basis = refl; seen = begins_self []; was = begins_self []; told = begins_self []; lawful = l };
        calls = λ n e. record { all = refl; seen = refl; first = λ z. record { counts = refl; lists = refl; ended_seen = λ k d got. absurd (some-ne-none d (sym got)) } };
        passes_wait = (let h : 0 ≤ 1 = omega arith in h);
        in_turn = tt;
      })
      first_fits (suc j) v at l = absurd (some-ne-none v (sym at))

  pub opens_with : (x : V) (xs : List (Place V)) (bells : List ℕ) → xs ≡ Full x ∷ [] → basis x ≡ start → entries x ≡ [] → law (basis x) (entries x) → Orderly basis entries law start (opening (0 ∷ 0 ∷ 0 ∷ bells) xs (first_view start))
  opens_with x xs bells all base empty lawful = subst (λ (ys : List (Place V)). Orderly basis entries law start (opening (0 ∷ 0 ∷ 0 ∷ bells) ys (first_view start))) (sym all) (opens x bells base empty lawful)

  pub splits_note : (id n : ℕ) (v : View) → v.role ≡ Caller n → Splits (Orderly basis entries law start) id v v (noted v)
  splits_note id n v role s o at =
      let f = o.each id v at in
      let i = f.informed (λ z. let h : Caller n ≡ Spent = sym role ∙ z in cc) in
      let w : View = noted v in
      let roll = roll_kept law start o.log o.serving o.waiting o.made o.ended s.views o.roll id v v at refl in
      let line = line_kept law start o.log o.serving o.waiting o.made o.ended s.views o.line id v v at refl (λ t. refl) in
      let all : (g : View → ℕ) → g w ≡ 0 → total g (set s.views id v ++ w ∷ []) ≡ total g (set s.views id v) = λ g z. let a = total_snoc g (set s.views id v) w in omega arith in
      record {
        log = o.log;
        serving = o.serving;
        waiting = o.waiting;
        bells = o.bells;
        made = o.made;
        ended = o.ended;
        words = o.words;
        history = o.history;
        each = each_snoc (Fits law start o.log o.serving o.made o.ended) (set s.views id v) w
            (fits_newcomer law start o.log o.serving o.made o.ended o.made o.ended v Noted i (λ m e. let h : Noted ≡ Caller m = e in cc))
            (each_set (Fits law start o.log o.serving o.made o.ended) s.views id v f (λ j u ne got. o.each j u got));
        roll = record {
          numbers = λ m l. ap (λ (k : ℕ). k + times m o.ended) (all (numbered m) refl) ∙ roll.numbers m l;
          no_numbers = λ m l. ap (λ (k : ℕ). k + times m o.ended) (all (numbered m) refl) ∙ roll.no_numbers m l;
          living = ap (λ (k : ℕ). k + length o.ended) (all alive refl) ∙ roll.living;
          few = roll.few;
        };
        line = line_snoc o.serving o.waiting (set s.views id v) line w refl;
        shelved = subst (λ (k : ℕ). Shelved basis entries start o.log k s.homes) (sym (all loaded refl ∙ total_same loaded s.views id v v at refl)) o.shelved;
      }

  pub splits_pass : (id : ℕ) (v : View) → v.role ≡ Caller 0 → v.made < 255 → Splits (Orderly basis entries law start) id v (after_split v) (split_off v)
  splits_pass id v role room s o at =
      let f = o.each id v at in
      let i = f.informed (λ z. let h : Caller 0 ≡ Spent = sym role ∙ z in cc) in
      let c = f.calls 0 role in
      let k = c.first refl in
      let made_is : v.made ≡ o.made = k.counts in
      let x : View = after_split v in
      let w : View = split_off v in
      let views : List View = set s.views id x in
      let given = made_once law start o.log o.serving o.waiting o.made o.ended s.views o.roll id 0 v at role in
      let some_made : 0 < o.made = given.0 in
      let roll = roll_kept law start o.log o.serving o.waiting o.made o.ended s.views o.roll id v x at refl in
      let line = line_kept law start o.log o.serving o.waiting o.made o.ended s.views o.line id v x at refl (λ t. refl) in
      let counted : (m : ℕ) → total (numbered m) (views ++ w ∷ []) ≡ total (numbered m) views + once_if v.made m = λ m. total_snoc (numbered m) views w in
      record {
        log = o.log;
        serving = o.serving;
        waiting = o.waiting;
        bells = o.bells;
        made = suc o.made;
        ended = o.ended;
        words = o.words;
        history = record { lawful = o.history.lawful; short = o.history.short; no_calls = λ m le. o.history.no_calls m (let l : o.made ≤ m = omega arith in l); retired = o.history.retired };
        each = each_snoc (Fits law start o.log o.serving (suc o.made) o.ended) views w
            (fits_newcomer law start o.log o.serving o.made o.ended (suc o.made) o.ended v (Caller v.made) i (λ m e. let h : v.made ≡ m = cc in ((λ z. absurd (omega arith)), o.history.no_calls m (let l : o.made ≤ m = omega arith in l))))
            (each_set (Fits law start o.log o.serving (suc o.made) o.ended) s.views id x
            (record {
              informed = λ live. record { basis = i.basis; seen = i.seen; was = i.was; told = i.told; lawful = i.lawful };
              calls = λ m r. let d = f.calls m r in record { all = d.all; seen = d.seen; first = λ z. let q = d.first z in record { counts = (let g : v.made ≡ o.made = q.counts in let h : v.made + 1 ≡ suc o.made = omega arith in h); lists = q.lists; ended_seen = q.ended_seen } };
              passes_wait = f.passes_wait;
              in_turn = f.in_turn;
            })
            (λ j u ne got. fits_others law start o.log o.serving o.made o.ended (suc o.made) o.ended u (o.each j u got) (λ m r. other_number law start o.log o.serving o.waiting o.made o.ended s.views o.roll id j 0 m v u (λ q. ne (sym q)) at got role r)));
        roll = record {
          numbers = λ m l. dite (ℕ_discrete v.made m)
              (λ e. let a = counted m in let b : once_if v.made m ≡ 1 = once_yes v.made m e in let d = roll.no_numbers m (let le : o.made ≤ m = omega arith in le) in omega arith)
              (λ ne. let a = counted m in let b : once_if v.made m ≡ 0 = once_no v.made m ne in let d = roll.numbers m (let lt : m < o.made = omega arith in lt) in omega arith);
          no_numbers = λ m l. let a = counted m in let b : once_if v.made m ≡ 0 = once_no v.made m (λ e. absurd (omega arith)) in let d = roll.no_numbers m (let le : o.made ≤ m = omega arith in le) in omega arith;
          living = (let a : total alive (views ++ w ∷ []) ≡ total alive views + 1 = total_snoc alive views w in let b = roll.living in omega arith);
          few = omega arith;
        };
        line = line_snoc o.serving o.waiting views line w refl;
        shelved = subst (λ (n : ℕ). Shelved basis entries start o.log n s.homes) (sym (total_snoc loaded views w ∙ (let a : total loaded views ≡ total loaded s.views = total_same loaded s.views id v x at refl in let h : total loaded views + 0 ≡ total loaded s.views = omega arith in h))) o.shelved;
      }

  -- a join: the view v becomes x, and the view w is spent
  module _ (s : State (Place V) View) (o : Orderly basis entries law start s) (id other n : ℕ) (v w x : View) (at : get_elem? s.views id ≡ some v) (apart : ¬ (other ≡ id)) (there : get_elem? (set s.views id x) other ≡ some w) where
    met_total : (g : View → ℕ) → g x ≡ g v → g spent ≡ 0 → total g (set (set s.views id x) other spent) + g w ≡ total g s.views
    met_total g same none_left =
        let a = total_set g (set s.views id x) other w spent there in
        let b = total_same g s.views id v x at same in
        omega arith

    met_each : (m : ℕ) (es : List Ended) → Fits law start o.log o.serving m es x → ((j : ℕ) (u : View) → j ≢ id → get_elem? s.views j ≡ some u → Fits law start o.log o.serving m es u) → (j : ℕ) (u : View) → get_elem? (set (set s.views id x) other spent) j ≡ some u → Fits law start o.log o.serving m es u
    met_each m es new old = each_set (Fits law start o.log o.serving m es) (set s.views id x) other spent (fits_spent law start o.log o.serving o.made o.ended m es) (λ j u ne got. each_set (Fits law start o.log o.serving m es) s.views id x new old j u got)

    met_line : x.stage ≡ v.stage → w.stage ≡ Idle → IsLine o.serving o.waiting (set (set s.views id x) other spent)
    met_line same idle =
        line_kept law start o.log o.serving o.waiting o.made o.ended (set s.views id x)
        (line_kept law start o.log o.serving o.waiting o.made o.ended s.views o.line id v x at (ap waits same) (λ t. ap (has_ticket t) same))
        other w spent there (sym (ap waits idle)) (λ t. sym (ap (has_ticket t) idle))

    met_shelved : x.stage ≡ v.stage → w.stage ≡ Idle → Shelved basis entries start o.log (total loaded (set (set s.views id x) other spent)) s.homes
    met_shelved same idle = subst (λ (k : ℕ). Shelved basis entries start o.log k s.homes) (sym (total_same loaded (set s.views id x) other w spent there (sym (ap has_value idle)) ∙ total_same loaded s.views id v x at (ap has_value same))) o.shelved

  pub joins_note : (id other n : ℕ) (v w : View) → v.role ≡ Caller n → v.stage ≡ Idle → w.role ≡ Noted → w.stage ≡ Idle → Joins (Orderly basis entries law start) id v other w (informed v w) spent
  joins_note id other n v w role free note idle s o at apart there =
      let x : View = informed v w in
      let was_there : get_elem? s.views other ≡ some w = sym (set_else s.views id other x apart) ∙ there in
      let f = o.each id v at in
      let g = o.each other w was_there in
      let i = f.informed (λ z. let h : Caller n ≡ Spent = sym role ∙ z in cc) in
      let j = g.informed (λ z. let h : Noted ≡ Spent = sym note ∙ z in cc) in
      let total_is : (q : View → ℕ) → q x ≡ q v → q spent ≡ 0 → q w ≡ 0 → total q (set (set s.views id x) other spent) ≡ total q s.views = λ q same z y. let a = met_total s o id other n v w x at apart there q same z in omega arith in
      record {
        log = o.log;
        serving = o.serving;
        waiting = o.waiting;
        bells = o.bells;
        made = o.made;
        ended = o.ended;
        words = o.words;
        history = o.history;
        each = met_each s o id other n v w x at apart there o.made o.ended
            (record {
              informed = λ live. told_more law start o.log o.serving o.made o.ended v w i j;
              calls = λ m r.
                  let c = f.calls m r in
                  let same : calls_by m (longer v.seen w.seen) ≡ calls_by m o.log = calls_longer law start o.log o.serving o.made o.ended m v.seen w.seen i.seen j.seen (sym c.seen ∙ c.all) in
                  record {
                    all = c.all;
                    seen = c.all ∙ sym same;
                    first = λ z. let k = c.first z in record {
                      counts = k.counts;
                      lists = k.lists;
                      ended_seen = λ q e got. o.history.retired q e got ∙ sym (calls_longer law start o.log o.serving o.made o.ended e.number v.seen w.seen i.seen j.seen (sym (k.ended_seen q e got) ∙ o.history.retired q e got));
                    };
                  };
              passes_wait = f.passes_wait;
              in_turn = subst (InTurn o.log o.serving (longer v.seen w.seen)) (sym free) tt;
            })
            (λ q u ne got. o.each q u got);
        roll = record {
          numbers = λ m l. ap (λ (k : ℕ). k + times m o.ended) (total_is (numbered m) refl refl (ap (numbers_as m) note)) ∙ o.roll.numbers m l;
          no_numbers = λ m l. ap (λ (k : ℕ). k + times m o.ended) (total_is (numbered m) refl refl (ap (numbers_as m) note)) ∙ o.roll.no_numbers m l;
          living = ap (λ (k : ℕ). k + length o.ended) (total_is alive refl refl (ap lives note)) ∙ o.roll.living;
          few = o.roll.few;
        };
        line = met_line s o id other n v w x at apart there refl idle;
        shelved = met_shelved s o id other n v w x at apart there refl idle;
      }

  pub joins_pass : (id other n : ℕ) (v w : View) → v.role ≡ Caller 0 → v.stage ≡ Idle → w.role ≡ Caller n → w.stage ≡ Idle → Joins (Orderly basis entries law start) id v other w (retiring v w) spent
  joins_pass id other n v w role free pass idle s o at apart there =
      let x : View = retiring v w in
      let was_there : get_elem? s.views other ≡ some w = sym (set_else s.views id other x apart) ∙ there in
      let f = o.each id v at in
      let g = o.each other w was_there in
      let i = f.informed (λ z. let h : Caller 0 ≡ Spent = sym role ∙ z in cc) in
      let j = g.informed (λ z. let h : Caller n ≡ Spent = sym pass ∙ z in cc) in
      let more = told_more law start o.log o.serving o.made o.ended v w i j in
      let his = g.calls n pass in
      let first = (f.calls 0 role).first refl in
      let number : number_of w.role ≡ n = ap number_of pass in
      let d : Ended = record { number = number_of w.role; calls = w.mine } in
      let es : List Ended = o.ended ++ d ∷ [] in
      let his_calls : w.mine ≡ calls_by (number_of w.role) o.log = his.all ∙ ap (λ (k : ℕ). calls_by k o.log) (sym number) in
      let his_seen : calls_by (number_of w.role) w.seen ≡ calls_by (number_of w.role) o.log = ap (λ (k : ℕ). calls_by k w.seen) number ∙ sym his.seen ∙ his_calls in
      let counted : (m : ℕ) → total (numbered m) (set (set s.views id x) other spent) + times m es ≡ total (numbered m) s.views + times m o.ended = λ m.
      let a = met_total s o id other n v w x at apart there (numbered m) refl refl in
      let b : numbers_as m w.role ≡ once_if n m = ap (numbers_as m) pass in
      let c : times m es ≡ times m o.ended + once_if (number_of w.role) m = times_snoc m o.ended d in
      let e : once_if (number_of w.role) m ≡ once_if n m = ap (λ (k : ℕ). once_if k m) number in
      omega arith in
      record {
        log = o.log;
        serving = o.serving;
        waiting = o.waiting;
        bells = o.bells;
        made = o.made;
        ended = es;
        words = o.words;
        history = record {
          lawful = o.history.lawful;
          short = o.history.short;
          no_calls = o.history.no_calls;
          retired = λ k e got. ⊎_elim (λ old. o.history.retired k e old) (λ (new : d ≡ e). subst (λ (z : Ended). z.calls ≡ calls_by z.number o.log) new his_calls) (at_snoc o.ended d e k got);
        };
        each = met_each s o id other n v w x at apart there o.made es
            (record {
              informed = λ live. record { basis = more.basis; seen = more.seen; was = more.was; told = more.told; lawful = more.lawful };
              calls = λ m r.
                  let c = f.calls m r in
                  record {
                    all = c.all;
                    seen = c.all ∙ sym (calls_longer law start o.log o.serving o.made o.ended m v.seen w.seen i.seen j.seen (sym c.seen ∙ c.all));
                    first = λ z. record {
                      counts = first.counts;
                      lists = ap (λ (l : List Ended). l ++ d ∷ []) first.lists;
                      ended_seen = λ q e got. ⊎_elim
                          (λ old. o.history.retired q e old ∙ sym (calls_longer law start o.log o.serving o.made o.ended e.number v.seen w.seen i.seen j.seen (sym (first.ended_seen q e old) ∙ o.history.retired q e old)))
                          (λ (new : d ≡ e). subst (λ (z : Ended). z.calls ≡ calls_by z.number (longer v.seen w.seen)) new (his_calls ∙ sym (calls_longer_right law start o.log o.serving o.made o.ended (number_of w.role) v.seen w.seen i.seen j.seen his_seen)))
                          (at_snoc o.ended d e q got);
                    };
                  };
              passes_wait = f.passes_wait;
              in_turn = subst (InTurn o.log o.serving (longer v.seen w.seen)) (sym free) tt;
            })
            (λ q u ne got. fits_others law start o.log o.serving o.made o.ended o.made es u (o.each q u got) (λ m r. other_number law start o.log o.serving o.waiting o.made o.ended s.views o.roll id q 0 m v u (λ h. ne (sym h)) at got role r));
        roll = record {
          numbers = λ m l. counted m ∙ o.roll.numbers m l;
          no_numbers = λ m l. counted m ∙ o.roll.no_numbers m l;
          living = (
              let a = met_total s o id other n v w x at apart there alive refl refl in
              let b : lives w.role ≡ 1 = ap lives pass in
              let c : length es ≡ length o.ended + 1 = length-append o.ended (d ∷ []) in
              let e = o.roll.living in
              omega arith);
          few = o.roll.few;
        };
        line = met_line s o id other n v w x at apart there refl idle;
        shelved = met_shelved s o id other n v w x at apart there refl idle;
      }

-- what a closed turnstile's value x has to do with its pass 0
pub record Ends {V : Type 0} (basis : V → Basis) (entries : V → List Entry) (law : Basis → List Entry → Type 0) (p : PassView) (x : V) : Type 0 where
  pub base : basis x ≡ p.basis
  pub seen : Begins p.seen (entries x)
  pub lawful : law (basis x) (entries x)
  pub mine : calls_by 0 (entries x) ≡ p.mine
  pub ended : (k : ℕ) (e : Ended) → get_elem? p.ended k ≡ some e → calls_by e.number (entries x) ≡ e.calls
  pub others : (n : ℕ) → n ≢ 0 → times n p.ended ≡ 0 → calls_by n (entries x) ≡ []

module _ {V : Type 0} (basis : V → Basis) (entries : V → List Entry) (law : Basis → List Entry → Type 0) (start : Basis) (s : State (Place V) View) (o : Orderly basis entries law start s) (id : ℕ) (v : View) (at : get_elem? s.views id ≡ some v) (role : v.role ≡ Caller 0) (idle : v.stage ≡ Idle) (retired : length v.ended + 1 ≡ v.made) where
  lone : total alive s.views ≡ 1
  lone =
      let first = ((o.each id v at).calls 0 role).first refl in
      let a = first.counts in
      let b : length v.ended ≡ length o.ended = ap length first.lists in
      let c = o.roll.living in
      omega arith

  none_out : total loaded s.views ≡ 0
  none_out =
      let a : lives v.role ≡ 1 = ap lives role in
      let b : has_value v.stage ≡ 0 = ap has_value idle in
      let c : total loaded s.views < total alive s.views = total_less loaded alive s.views id v (λ j u got. let p = value_waits u.stage in let q = (o.each j u got).passes_wait in omega arith) at (omega arith) in
      let d = lone in
      omega arith

  no_others : (n : ℕ) → n ≢ 0 → times n v.ended ≡ 0 → calls_by n o.log ≡ []
  no_others n ne away =
      let first = ((o.each id v at).calls 0 role).first refl in
      let a : lives v.role ≡ 1 = ap lives role in
      let b : numbers_as n v.role ≡ once_if 0 n = ap (numbers_as n) role in
      let c : once_if 0 n ≡ 0 = once_no 0 n (λ e. ne (sym e)) in
      let d : total (numbered n) s.views < total alive s.views = total_less (numbered n) alive s.views id v (λ j u got. number_lives n u.role) at (omega arith) in
      let e = lone in
      let f : times n o.ended ≡ 0 = ap (times n) (sym first.lists) ∙ away in
      let g = o.roll.numbers n in
      o.history.no_calls n (grind arith)

  pub ends : (z : TableId) (n : ℕ) → (x : V) × (s.homes ≡ some (Full x) ∷ []) × Ends basis entries law (pass_view z n v) x
  ends z n =
      let f = o.each id v at in
      let i = f.informed (λ z. let h : Caller 0 ≡ Spent = sym role ∙ z in cc) in
      let c = f.calls 0 role in
      let first = c.first refl in
      let home = subst (λ (k : ℕ). Shelved basis entries start o.log k s.homes) none_out o.shelved in
      let same : entries home.0 ≡ o.log = home.3 in (
        home.0,
        home.1,
        record {
          base = home.2 ∙ sym i.basis;
          seen = subst (λ (l : List Entry). Begins v.seen l) (sym same) i.seen;
          lawful = subst (λ (b : Basis). law b (entries home.0)) (sym home.2) (subst (law start) (sym same) o.history.lawful);
          mine = ap (calls_by 0) same ∙ sym c.all;
          ended = λ k e got. ap (calls_by e.number) same ∙ sym (o.history.retired k e (subst (λ (es : List Ended). get_elem? es k ≡ some e) first.lists got));
          others = λ m ne away. ap (calls_by m) same ∙ no_others m ne away;
        },
      )
