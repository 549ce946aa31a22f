-- Each step of a turn keeps the rule: draw, look, front, take, file, leave, and the setting of the bell.
use Rattle.std.proofs.Common.{◌≡◌, ◌≢◌, ℕ, zero, suc, ◌+◌, ◌-◌, ◌%◌, ◌^◌, ◌<◌, ◌≤◌, eqb, eq-eqb, ne_eqb, List, [], ◌∷◌, ◌++◌, length, slice_index, slice_set, set, sym, refl, ap, subst, ◌∙◌, inl, inr, arith, length-append}
use mathlib.Core.Option.{Option, none, some}
use lib.ListN.{get_elem?}
use native.Mathlib.Decide.{ℕ_discrete}
use mathlib.Core.Logic.{dite}
use prog.Atomic.{either}
use Rattle.std.specs.declared.snapshot.Snapshot.{Snapshot}
use Rattle.atomic_table.proofs.Lists.{one_turn}
use Rattle.atomic_table.specs.Table.{State, Me, step, keeps, takes, gives, Allows, put_back}
use Rattle.turnstile.specs.declared.history.Entry.{Entry}
use Rattle.turnstile.specs.declared.history.Basis.{Basis}
use Rattle.turnstile.specs.declared.view.Ended.{Ended}
use Rattle.turnstile.specs.declared.view.Place.{Place}
use Rattle.turnstile.specs.declared.view.Place.TheVariants.{Full, Shown}
use Rattle.turnstile.specs.declared.view.Role.TheVariants.{Caller, Spent}
use Rattle.turnstile.specs.declared.view.Stage.{Stage}
use Rattle.turnstile.specs.declared.view.Stage.TheVariants.{Idle, Waiting, Served, Loaded}
use Rattle.turnstile.specs.declared.view.View.{View}
use Rattle.turnstile.specs.Histories.{Begins, caller, calls_by}
use Rattle.turnstile.specs.Views.{total, once_if, lives, has_ticket, waits, has_value, loaded, times, staged, saw, filed}
use Rattle.turnstile.specs.Orderly.{InTurn, Fits, IsHistory, IsLine, Shelved, Orderly}
use Rattle.turnstile.specs.Steps.{Sights, Draws, Looks, Leaves, Rings, Fronts, Takes, Files}
use Rattle.turnstile.proofs.Counts.{once_yes, total_set, total_same, share, not_times}
use Rattle.turnstile.proofs.Beginnings.{begins_self, begins_more, snoc_same, own_call, other_call}
use Rattle.turnstile.proofs.Standing.{mod_next, each_set, few_wait, in_line, alone, value_once, value_home, made_once, other_number, roll_kept, line_kept, line_longer, line_shorter, fits_staged, fits_saw}

-- whoever has not the ticket that is served stays as it is, whatever is served next and filed meanwhile
not_served : (log more : List Entry) (serving next : ℕ) (seen : List Entry) (s : Stage) → InTurn log serving seen s → has_ticket serving s ≡ 0 → InTurn more next seen s
not_served log more serving next seen Idle t z = tt
not_served log more serving next seen (Waiting u) t z = tt
not_served log more serving next seen (Served u) t z = let a : once_if u serving ≡ 1 = once_yes u serving t in absurd (omega arith)
not_served log more serving next seen (Loaded u) t z = let a : once_if u serving ≡ 1 = once_yes u serving t.0 in absurd (omega arith)

fits_next : (law : Basis → List Entry → Type 0) (start : Basis) (log : List Entry) (serving next made : ℕ) (ended : List Ended) (v : View) → Fits law start log serving made ended v → InTurn log next v.seen v.stage → Fits law start log next made ended v
fits_next law start log serving next made ended v f t = record { informed = f.informed; calls = f.calls; passes_wait = f.passes_wait; in_turn = t }

-- of a pass whose stage is known
at_stage : (log : List Entry) (serving : ℕ) (seen : List Entry) (s r : Stage) → s ≡ r → InTurn log serving seen s → InTurn log serving seen r
at_stage log serving seen s r e t = subst (InTurn log serving seen) e t

-- a history with one entry more, which is a call of the pass n
module _ (law : Basis → List Entry → Type 0) (start : Basis) (log : List Entry) (made : ℕ) (ended : List Ended) (n : ℕ) (e : Entry) where
  retired_longer : caller e ≡ n → times n ended ≡ 0 → ((k : ℕ) (x : Ended) → get_elem? ended k ≡ some x → x.calls ≡ calls_by x.number log) → (k : ℕ) (x : Ended) → get_elem? ended k ≡ some x → x.calls ≡ calls_by x.number (log ++ e ∷ [])
  retired_longer same away retired k x at =
      let other : x.number ≢ n = not_times n ended k x away at in
      retired k x at ∙ sym (other_call x.number log e (λ h. other (sym h ∙ same)))

  history_longer : IsHistory law start log made ended → caller e ≡ n → n < made → times n ended ≡ 0 → law start (log ++ e ∷ []) → length (log ++ e ∷ []) < 2 ^ 32 → IsHistory law start (log ++ e ∷ []) made ended
  history_longer h same below away lawful short = record {
    lawful = lawful;
    short = short;
    no_calls = λ m le. other_call m log e (λ (q : caller e ≡ m). let r : n ≡ m = sym same ∙ q in absurd (omega arith)) ∙ h.no_calls m le;
    retired = retired_longer same away h.retired;
  }

  -- the view of another pass, a note or a spent view
  fits_longer : (serving : ℕ) (u : View) → Fits law start log serving made ended u → has_ticket serving u.stage ≡ 0 → ((m : ℕ) → u.role ≡ Caller m → m ≢ n) → caller e ≡ n → Fits law start (log ++ e ∷ []) serving made ended u
  fits_longer serving u f away other same = record {
    informed = λ r. let i = f.informed r in record { basis = i.basis; seen = begins_more u.seen log e i.seen; was = begins_more u.was log e i.was; told = begins_more u.told log e i.told; lawful = i.lawful };
    calls = λ m r. let c = f.calls m r in record { all = c.all ∙ sym (other_call m log e (λ q. other m r (sym q ∙ same))); seen = c.seen; first = c.first };
    passes_wait = f.passes_wait;
    in_turn = not_served log (log ++ e ∷ []) serving serving u.seen u.stage f.in_turn away;
  }

  -- the view of the pass itself
  fits_filed : (serving : ℕ) (v : View) → Fits law start log serving made ended v → v.role ≡ Caller n → v.stage ≡ Loaded serving → v.seen ≡ log → caller e ≡ n → times n ended ≡ 0 → IsHistory law start (log ++ e ∷ []) made ended → Fits law start (log ++ e ∷ []) serving made ended (filed e v)
  fits_filed serving v f role has all_seen same away h =
      let grown : v.seen ++ e ∷ [] ≡ log ++ e ∷ [] = ap (λ (l : List Entry). l ++ e ∷ []) all_seen in
      record {
        informed = λ r. let i = f.informed r in record {
          basis = i.basis;
          seen = subst (λ (l : List Entry). Begins l (log ++ e ∷ [])) (sym grown) (begins_self (log ++ e ∷ []));
          was = begins_more v.was log e i.was;
          told = begins_more v.told log e i.told;
          lawful = subst (law start) (sym grown) h.lawful;
        };
        calls = λ m r.
            let c = f.calls m r in
            let mine : v.mine ++ e ∷ [] ≡ calls_by m (log ++ e ∷ []) = ap (λ (l : List Entry). l ++ e ∷ []) c.all ∙ sym (own_call m log e (same ∙ (let k : n ≡ m = cc in k))) in
            record {
              all = mine;
              seen = mine ∙ ap (calls_by m) (sym grown);
              first = λ z. let k = c.first z in record { counts = k.counts; lists = k.lists; ended_seen = λ j x at. h.retired j x at ∙ ap (calls_by x.number) (sym grown) };
            };
        passes_wait = f.passes_wait;
        in_turn = subst (InTurn (log ++ e ∷ []) serving (v.seen ++ e ∷ [])) (sym has) (refl, grown);
      }

module _ {V : Type 0} (basis : V → Basis) (entries : V → List Entry) (law : Basis → List Entry → Type 0) (start : Basis) where
  shelf_moves : (log : List Entry) (k m : ℕ) (homes : List (Option (Place V))) → m ≡ k → Shelved basis entries start log k homes → Shelved basis entries start log m homes
  shelf_moves log k m homes e h = subst (λ (j : ℕ). Shelved basis entries start log j homes) (sym e) h

  out : (log : List Entry) (k : ℕ) (homes : List (Option (Place V))) → 0 < k → Shelved basis entries start log k homes → homes ≡ none ∷ []
  out log zero homes l h = absurd (omega arith)
  out log (suc k) homes l h = h

  is_out : (log : List Entry) (k : ℕ) (homes : List (Option (Place V))) → 0 < k → homes ≡ none ∷ [] → Shelved basis entries start log k homes
  is_out log zero homes l h = absurd (omega arith)
  is_out log (suc k) homes l h = h

  -- a step at which one view changes, and neither the history nor who there is
  kept : (s : State (Place V) View) (o : Orderly basis entries law start s) (id : ℕ) (v w : View) → get_elem? s.views id ≡ some v → (serving waiting : ℕ) (bells ws : List ℕ) (homes : List (Option (Place V)))
      → ws ≡ (serving + waiting) % 2 ^ 64 ∷ serving % 2 ^ 64 ∷ length o.log ∷ bells → w.role ≡ v.role
      → ((j : ℕ) (u : View) → get_elem? (set s.views id w) j ≡ some u → Fits law start o.log serving o.made o.ended u)
      → IsLine serving waiting (set s.views id w) → Shelved basis entries start o.log (total loaded (set s.views id w)) homes
      → Orderly basis entries law start (record { words = ws; homes = homes; views = set s.views id w })
  kept s o id v w at serving waiting bells ws homes words role each line shelved = record {
    log = o.log;
    serving = serving;
    waiting = waiting;
    bells = bells;
    made = o.made;
    ended = o.ended;
    words = words;
    history = o.history;
    each = each;
    roll = roll_kept law start o.log serving waiting o.made o.ended s.views o.roll id v w at role;
    line = line;
    shelved = shelved;
  }

  -- the other views, where nothing of theirs changes
  others : (s : State (Place V) View) (o : Orderly basis entries law start s) (id : ℕ) (w : View) → Fits law start o.log o.serving o.made o.ended w → (j : ℕ) (u : View) → get_elem? (set s.views id w) j ≡ some u → Fits law start o.log o.serving o.made o.ended u
  others s o id w new = each_set (Fits law start o.log o.serving o.made o.ended) s.views id w new (λ j u ne at. o.each j u at)

  -- nothing changes but, maybe, the bell
  unchanged : (s : State (Place V) View) (o : Orderly basis entries law start s) (id : ℕ) (v : View) → get_elem? s.views id ≡ some v → (bells ws : List ℕ) → ws ≡ (o.serving + o.waiting) % 2 ^ 64 ∷ o.serving % 2 ^ 64 ∷ length o.log ∷ bells → Orderly basis entries law start (record { words = ws; homes = s.homes; views = set s.views id v })
  unchanged s o id v at bells ws words =
      kept s o id v v at o.serving o.waiting bells ws s.homes words refl
      (others s o id v (o.each id v at))
      (line_kept law start o.log o.serving o.waiting o.made o.ended s.views o.line id v v at refl (λ t. refl))
      (shelf_moves o.log (total loaded s.views) _ s.homes (total_same loaded s.views id v v at refl) o.shelved)

  pub draws : (slots id n old new : ℕ) (me : Me (Place V) View) → me.0.role ≡ Caller n → me.0.stage ≡ Idle → new ≡ (old + 1) % 2 ^ 64 → Allows (Orderly basis entries law start) slots id me 0 (λ k. either (eqb k old) new k) (Draws (step slots 0 old new none) me)
  draws slots id n old new me role idle one_more s o homes at bound =
      let t : ℕ = o.serving + o.waiting in
      let found : slice_index s.words 0 ≡ t % 2 ^ 64 = ap (λ (ws : List ℕ). slice_index ws 0) o.words in
      let w : View = staged (Waiting t) me.0 in
      let l : lives me.0.role ≡ 1 = ap lives role in
      dite (ℕ_discrete (slice_index s.words 0) old)
      (λ e.
      let next : new ≡ (o.serving + suc o.waiting) % 2 ^ 64 = one_more ∙ ap (λ (k : ℕ). (k + 1) % 2 ^ 64) (sym e ∙ found) ∙ mod_next t (2 ^ 64) ∙ ap (λ (k : ℕ). k % 2 ^ 64) (let h : t + 1 ≡ o.serving + suc o.waiting = omega arith in h) in (
        w,
        keeps,
        tt,
        kept s o id me.0 w at o.serving (suc o.waiting) o.bells _ _
            (ap (λ (b : _). slice_set s.words 0 (either b new (slice_index s.words 0))) (eq-eqb (slice_index s.words 0) old e) ∙ ap (λ (ws : List ℕ). slice_set ws 0 new) o.words ∙ ap (λ (k : ℕ). k ∷ o.serving % 2 ^ 64 ∷ length o.log ∷ o.bells) next)
            refl
            (others s o id w (fits_staged law start o.log o.serving o.waiting o.made o.ended s.views (Waiting t) me.0 (o.each id me.0 at) (omega arith) tt))
            (line_longer law start o.log o.serving o.waiting o.made o.ended s.views o.line id me.0 at idle)
            (shelf_moves o.log (total loaded s.views) _ s.homes (total_same loaded s.views id me.0 w at (sym (ap has_value idle))) o.shelved),
        inl (e, t, found, refl),
      ))
      (λ ne. (
        me.0,
        keeps,
        tt,
        unchanged s o id me.0 at o.bells _ (ap (λ (b : _). slice_set s.words 0 (either b new (slice_index s.words 0))) (ne_eqb (slice_index s.words 0) old ne) ∙ ap (λ (ws : List ℕ). slice_set ws 0 (slice_index ws 0)) o.words),
        inr (ne, refl),
      ))

  pub rings : (slots id b new : ℕ) (me : Me (Place V) View) → 3 ≤ b → Allows (Orderly basis entries law start) slots id me b (λ _. new) (λ _. Rings (step slots b new 0 none) me new)
  rings slots id b new me far s o homes at bound =
      let k : ℕ = b - 3 in
      let e : b ≡ suc (suc (suc k)) = omega arith in (
        me.0,
        keeps,
        tt,
        unchanged s o id me.0 at (slice_set o.bells k new) _ (ap (λ (j : ℕ). slice_set s.words j new) e ∙ ap (λ (ws : List ℕ). slice_set ws (suc (suc (suc k))) new) o.words),
        refl,
      )

  pub looks : (slots id n t : ℕ) (me : Me (Place V) View) → me.0.role ≡ Caller n → me.0.stage ≡ Waiting t → Allows (Orderly basis entries law start) slots id me 1 (λ k. k) (Looks (step slots 1 0 0 none) me)
  looks slots id n t me role waits_t s o homes at bound =
      let found : slice_index s.words 1 ≡ o.serving % 2 ^ 64 = ap (λ (ws : List ℕ). slice_index ws 1) o.words in
      let words : slice_set s.words 1 (slice_index s.words 1) ≡ (o.serving + o.waiting) % 2 ^ 64 ∷ o.serving % 2 ^ 64 ∷ length o.log ∷ o.bells = ap (λ (ws : List ℕ). slice_set ws 1 (slice_index ws 1)) o.words in
      let w : View = staged (Served t) me.0 in
      dite (ℕ_discrete (slice_index s.words 1) (t % 2 ^ 64))
      (λ e.
      let mine : has_ticket t me.0.stage ≡ 1 = ap (has_ticket t) waits_t ∙ once_yes t t refl in
      let lined = in_line law start o.log o.serving o.waiting o.made o.ended s.views o.line id t me.0 at mine in
      let above : o.serving ≤ t = lined.0 in
      let below : t < o.serving + o.waiting = lined.1 in
      let few : o.waiting ≤ 255 = few_wait law start o.log o.serving o.waiting o.made o.ended s.views o.each o.roll o.line in
      let same : o.serving ≡ t = one_turn o.serving t (2 ^ 64) above (omega arith) (sym found ∙ e) in
      let l : lives me.0.role ≡ 1 = ap lives role in (
        w,
        keeps,
        tt,
        kept s o id me.0 w at o.serving o.waiting o.bells _ _ words refl
            (others s o id w (fits_staged law start o.log o.serving o.waiting o.made o.ended s.views (Served t) me.0 (o.each id me.0 at) (omega arith) (sym same)))
            (line_kept law start o.log o.serving o.waiting o.made o.ended s.views o.line id me.0 w at (sym (ap waits waits_t)) (λ k. sym (ap (has_ticket k) waits_t)))
            (shelf_moves o.log (total loaded s.views) _ s.homes (total_same loaded s.views id me.0 w at (sym (ap has_value waits_t))) o.shelved),
        (λ u waits_u. let same_ticket : t ≡ u = cc in inl (e ∙ ap (λ (k : ℕ). k % 2 ^ 64) same_ticket, ap (λ (k : ℕ). (staged (Served k) me.0, me.1)) same_ticket)),
      ))
      (λ ne. (me.0, keeps, tt, unchanged s o id me.0 at o.bells _ words, (λ u waits_u. let same_ticket : t ≡ u = cc in inr ((λ e. ne (e ∙ ap (λ (k : ℕ). k % 2 ^ 64) (sym same_ticket))), refl))))

  -- the view of a pass that sees the whole history
  sighted : (s : State (Place V) View) (o : Orderly basis entries law start s) (id n : ℕ) (v : View) → get_elem? s.views id ≡ some v → v.role ≡ Caller n → Sights law v (slice_index s.words 2) o.log
  sighted s o id n v at role =
      let found : slice_index s.words 2 ≡ length o.log = ap (λ (ws : List ℕ). slice_index ws 2) o.words in
      let short = o.history.short in
      let f = o.each id v at in
      let lives_on : v.role ≢ Spent = λ z. let h : Caller n ≡ Spent = sym role ∙ z in cc in
      let i = f.informed lives_on in
      record {
        short = omega arith;
        count = found;
        seen = i.seen;
        was = i.was;
        told = i.told;
        lawful = subst (λ (b : Basis). law b o.log) (sym i.basis) o.history.lawful;
        own = λ m r. (f.calls m r).all;
        some_made = λ r. let k = (f.calls 0 r).first refl in subst (λ (j : ℕ). 0 < j) (sym k.counts) (made_once law start o.log o.serving o.waiting o.made o.ended s.views o.roll id 0 v at r).0;
        lives = λ r. let k = (f.calls 0 r).first refl in ap (times 0) k.lists ∙ (made_once law start o.log o.serving o.waiting o.made o.ended s.views o.roll id 0 v at r).1;
        unused = λ r m le. let k = (f.calls 0 r).first refl in o.history.no_calls m (subst (λ (j : ℕ). j ≤ m) k.counts le);
        retired = λ r j x get. let k = (f.calls 0 r).first refl in o.history.retired j x (subst (λ (es : List Ended). get_elem? es j ≡ some x) k.lists get);
      }

  pub sees : (slots id n : ℕ) (me : Me (Place V) View) → me.0.role ≡ Caller n → me.0.stage ≡ Idle → Allows (Orderly basis entries law start) slots id me 2 (λ k. k) (Fronts law (step slots 2 0 0 none) me)
  sees slots id n me role idle s o homes at bound =
      let w : View = saw o.log me.0 in (
        w,
        keeps,
        tt,
        kept s o id me.0 w at o.serving o.waiting o.bells _ _ (ap (λ (ws : List ℕ). slice_set ws 2 (slice_index ws 2)) o.words) refl
            (others s o id w (fits_saw law start o.log o.serving o.waiting o.made o.ended s.views o.history me.0 (o.each id me.0 at) (subst (InTurn o.log o.serving o.log) (sym idle) tt)))
            (line_kept law start o.log o.serving o.waiting o.made o.ended s.views o.line id me.0 w at refl (λ t. refl))
            (shelf_moves o.log (total loaded s.views) _ s.homes (total_same loaded s.views id me.0 w at refl) o.shelved),
        (o.log, sighted s o id n me.0 at role, refl),
      )

  pub takes_value : (slots id n t : ℕ) (me : Me (Place V) View) → me.0.role ≡ Caller n → me.0.stage ≡ Served t → Allows (Orderly basis entries law start) slots id me 2 (λ k. k) (Takes basis entries law (step slots 2 0 0 none) me)
  takes_value slots id n t me role served s o homes at bound =
      let w : View = staged (Loaded t) (saw o.log me.0) in
      let f = o.each id me.0 at in
      let same : t ≡ o.serving = subst (InTurn o.log o.serving me.0.seen) served f.in_turn in
      let has : has_ticket o.serving me.0.stage ≡ 1 = ap (has_ticket o.serving) served ∙ once_yes t o.serving same in
      let free : has_value me.0.stage ≡ 0 = ap has_value served in
      let none_out : total loaded s.views ≡ 0 = value_home law start o.log o.serving o.waiting o.made o.ended s.views o.each o.line id me.0 at free has in
      let home = shelf_moves o.log (total loaded s.views) 0 s.homes (sym none_out) o.shelved in
      let grows : total loaded (set s.views id w) + has_value me.0.stage ≡ total loaded s.views + 1 = total_set loaded s.views id me.0 w at in
      let l : lives me.0.role ≡ 1 = ap lives role in
      let lives_on : me.0.role ≢ Spent = λ z. let h : Caller n ≡ Spent = sym role ∙ z in cc in (
        w,
        takes 0 (Full home.0),
        ap (λ (hs : List (Option (Place V))). get_elem? hs 0) home.1,
        kept s o id me.0 w at o.serving o.waiting o.bells _ _ (ap (λ (ws : List ℕ). slice_set ws 2 (slice_index ws 2)) o.words) refl
            (others s o id w (fits_staged law start o.log o.serving o.waiting o.made o.ended s.views (Loaded t) (saw o.log me.0) (fits_saw law start o.log o.serving o.waiting o.made o.ended s.views o.history me.0 f (subst (InTurn o.log o.serving o.log) (sym served) same)) (omega arith) (same, refl)))
            (line_kept law start o.log o.serving o.waiting o.made o.ended s.views o.line id me.0 w at (sym (ap waits served)) (λ k. sym (ap (has_ticket k) served)))
            (is_out o.log _ _ (omega arith) (ap (λ (hs : List (Option (Place V))). slice_set hs 0 none) home.1)),
        (o.log, t, home.0, sighted s o id n me.0 at role, home.2 ∙ sym (f.informed lives_on).basis, home.3, refl),
      )

  pub leaves : (slots id n t : ℕ) (me : Me (Place V) View) (x : V) → me.0.role ≡ Caller n → me.0.stage ≡ Loaded t → me.1 ≡ (0, Full x) ∷ [] → basis x ≡ me.0.basis → entries x ≡ me.0.seen
      → Allows (Orderly basis entries law start) slots id me 1 (λ k. (k + 1) % 2 ^ 64) (Leaves (step slots 1 1 0 none) me)
  leaves slots id n t me x role has carries same_basis same_entries s o homes at bound =
      let w : View = staged Idle me.0 in
      let f = o.each id me.0 at in
      let turn : (t ≡ o.serving) × (me.0.seen ≡ o.log) = subst (InTurn o.log o.serving me.0.seen) has f.in_turn in
      let now : me.0.stage ≡ Loaded o.serving = has ∙ ap Loaded turn.0 in
      let mine : has_ticket o.serving me.0.stage ≡ 1 = ap (has_ticket o.serving) now ∙ once_yes o.serving o.serving refl in
      let lined : o.serving < o.serving + o.waiting = (in_line law start o.log o.serving o.waiting o.made o.ended s.views o.line id o.serving me.0 at mine).1 in
      let fewer : ℕ = o.waiting - 1 in
      let one_fewer : o.waiting ≡ suc fewer = omega arith in
      let lives_on : me.0.role ≢ Spent = λ z. let h : Caller n ≡ Spent = sym role ∙ z in cc in
      let valued : has_value me.0.stage ≡ 1 = ap has_value now in
      let one : total loaded s.views ≤ 1 = value_once law start o.log o.serving o.waiting o.made o.ended s.views o.each o.line in
      let some_out : loaded me.0 ≤ total loaded s.views = share loaded s.views id me.0 at in
      let falls : total loaded (set s.views id w) + has_value me.0.stage ≡ total loaded s.views + 0 = total_set loaded s.views id me.0 w at in
      let away : s.homes ≡ none ∷ [] = out o.log (total loaded s.views) s.homes (omega arith) o.shelved in
      let sum : o.serving + o.waiting ≡ suc o.serving + fewer = omega arith in
      let next : (o.serving % 2 ^ 64 + 1) % 2 ^ 64 ≡ suc o.serving % 2 ^ 64 = mod_next o.serving (2 ^ 64) ∙ ap (λ (k : ℕ). k % 2 ^ 64) (let h : o.serving + 1 ≡ suc o.serving = omega arith in h) in (
        w,
        gives,
        tt,
        kept s o id me.0 w at (suc o.serving) fewer o.bells _ _
            (ap (λ (ws : List ℕ). slice_set ws 1 ((slice_index ws 1 + 1) % 2 ^ 64)) o.words ∙ ap (λ (k : ℕ). (o.serving + o.waiting) % 2 ^ 64 ∷ k ∷ length o.log ∷ o.bells) next ∙ ap (λ (k : ℕ). k % 2 ^ 64 ∷ suc o.serving % 2 ^ 64 ∷ length o.log ∷ o.bells) sum)
            refl
            (each_set (Fits law start o.log (suc o.serving) o.made o.ended) s.views id w
            (fits_next law start o.log o.serving (suc o.serving) o.made o.ended w (fits_staged law start o.log o.serving o.waiting o.made o.ended s.views Idle me.0 f (omega arith) tt) tt)
            (λ j u ne got. fits_next law start o.log o.serving (suc o.serving) o.made o.ended u (o.each j u got) (not_served o.log o.log o.serving (suc o.serving) u.seen u.stage (o.each j u got).in_turn (alone law start o.log o.serving o.waiting o.made o.ended s.views o.line id j me.0 u (λ h. ne (sym h)) at got mine))))
            (line_shorter law start o.log o.serving fewer o.made o.ended s.views (subst (λ (k : ℕ). IsLine o.serving k s.views) one_fewer o.line) id me.0 at now)
            (shelf_moves o.log 0 _ _ (omega arith) (x, ap (put_back s.homes) carries ∙ ap (λ (hs : List (Option (Place V))). slice_set hs 0 (some (Full x))) away, same_basis ∙ (f.informed lives_on).basis, same_entries ∙ turn.1)),
        refl,
      )

  pub files : (slots id n t : ℕ) (me : Me (Place V) View) (x : Snapshot V) (e : Entry) (old new : ℕ) → me.0.role ≡ Caller n → me.0.stage ≡ Loaded t → basis x.value ≡ me.0.basis → entries x.value ≡ me.0.seen ++ e ∷ [] → caller e ≡ n
      → law (basis x.value) (entries x.value) → new ≡ length (entries x.value) → new < 2 ^ 32 → old + 1 ≡ new
      → Allows (Orderly basis entries law start) slots id me 2 (λ k. either (eqb k old) new k) (Files entries (step slots 2 old new (some (Shown x))) me)
  files slots id n t me x e old new role has same_basis same_entries own lawful count short step_up s o homes at bound =
      let w : View = filed e me.0 in
      let f = o.each id me.0 at in
      let turn : (t ≡ o.serving) × (me.0.seen ≡ o.log) = subst (InTurn o.log o.serving me.0.seen) has f.in_turn in
      let now : me.0.stage ≡ Loaded o.serving = has ∙ ap Loaded turn.0 in
      let mine : has_ticket o.serving me.0.stage ≡ 1 = ap (has_ticket o.serving) now ∙ once_yes o.serving o.serving refl in
      let grown : entries x.value ≡ o.log ++ e ∷ [] = same_entries ∙ ap (λ (l : List Entry). l ++ e ∷ []) turn.1 in
      let lives_on : me.0.role ≢ Spent = λ z. let h : Caller n ≡ Spent = sym role ∙ z in cc in
      let base : basis x.value ≡ start = same_basis ∙ (f.informed lives_on).basis in
      let total_count : new ≡ length (o.log ++ e ∷ []) = count ∙ ap length grown in
      let sum : length (o.log ++ e ∷ []) ≡ length o.log + 1 = length-append o.log (e ∷ []) in
      let found : slice_index s.words 2 ≡ length o.log = ap (λ (ws : List ℕ). slice_index ws 2) o.words in
      let hit : slice_index s.words 2 ≡ old = omega arith in
      let valued : has_value me.0.stage ≡ 1 = ap has_value now in
      let some_out : loaded me.0 ≤ total loaded s.views = share loaded s.views id me.0 at in
      let same_total : total loaded (set s.views id w) ≡ total loaded s.views = total_same loaded s.views id me.0 w at refl in
      let given = made_once law start o.log o.serving o.waiting o.made o.ended s.views o.roll id n me.0 at role in
      let h : IsHistory law start (o.log ++ e ∷ []) o.made o.ended = history_longer law start o.log o.made o.ended n e o.history own given.0 given.1 (subst (λ (b : Basis). law b (o.log ++ e ∷ [])) base (subst (law (basis x.value)) grown lawful)) (omega arith) in (
        w,
        keeps,
        tt,
        record {
          log = o.log ++ e ∷ [];
          serving = o.serving;
          waiting = o.waiting;
          bells = o.bells;
          made = o.made;
          ended = o.ended;
          words = ap (λ (b : _). slice_set s.words 2 (either b new (slice_index s.words 2))) (eq-eqb (slice_index s.words 2) old hit) ∙ ap (λ (ws : List ℕ). slice_set ws 2 new) o.words ∙ ap (λ (k : ℕ). (o.serving + o.waiting) % 2 ^ 64 ∷ o.serving % 2 ^ 64 ∷ k ∷ o.bells) total_count;
          history = h;
          each = each_set (Fits law start (o.log ++ e ∷ []) o.serving o.made o.ended) s.views id w
              (fits_filed law start o.log o.made o.ended n e o.serving me.0 f role now turn.1 own given.1 h)
              (λ j u ne got. fits_longer law start o.log o.made o.ended n e o.serving u (o.each j u got)
              (alone law start o.log o.serving o.waiting o.made o.ended s.views o.line id j me.0 u (λ q. ne (sym q)) at got mine)
              (λ m r. other_number law start o.log o.serving o.waiting o.made o.ended s.views o.roll id j n m me.0 u (λ q. ne (sym q)) at got role r) own);
          roll = roll_kept law start o.log o.serving o.waiting o.made o.ended s.views o.roll id me.0 w at refl;
          line = line_kept law start o.log o.serving o.waiting o.made o.ended s.views o.line id me.0 w at refl (λ k. refl);
          shelved = is_out (o.log ++ e ∷ []) _ _ (omega arith) (out o.log (total loaded s.views) s.homes (omega arith) o.shelved);
        },
        (λ y d said shows. let same : x ≡ y = cc in let one : d ≡ e = snoc_same me.0.seen d e (sym shows ∙ ap (λ (z : Snapshot V). entries z.value) (sym same) ∙ same_entries) in ap (λ (z : Entry). (filed z me.0, me.1)) (sym one)),
      )
