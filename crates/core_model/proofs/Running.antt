-- What holds of the world is kept by each event.
use Rattle.std.proofs.Common.{◌≡◌, ◌<◌, ◌^◌, ◌+◌, ◌-◌, ◌==◌, ℕ, zero, suc, Bool, true, false, cond, ltb, List, [], ◌∷◌, ◌++◌, Option, Some, None, refl, sym, ap, ◌∙◌, subst, inr, ⊎_elim, arith}
use Rattle.std.specs.Prelude.{◌&&◌, is_none}
use Rattle.std.proofs.lemmas.Bool.{and_parts, ltb-true}
use Rattle.std.proofs.lemmas.Option.{same_Some}
use Rattle.turnstile.specs.declared.history.Entry.{Entry}
use Rattle.turnstile.specs.declared.history.Basis.{Basis}
use Rattle.turnstile.proofs.Beginnings.{begins_self}
use Rattle.call_journal.specs.declared.deed.Deed.{Deed}
use Rattle.call_journal.specs.declared.deed.Deed.TheVariants.{Began, Ended, Underway}
use Rattle.call_journal.specs.Words.{IsDeed, deed_of}
use Rattle.table_model.specs.declared.call.Call.{Call}
use Rattle.table_model.specs.Calls.{answer, is_call}
use Rattle.core_model.specs.History.{DeedFits, IsStart, Standing, after_deed, after_entry, number_at, standing}
use Rattle.core_model.specs.Cuts.{IsAllowed, opened_cut}
use Rattle.table_model.specs.Cut.{Cut}
use Rattle.core_model.specs.Entries.{entry_of, entry_of_call}
use Rattle.core_model.specs.Events.{Event, asks_commit, begins, calls, calls_device, crashes, dies, ends, reopens}
use Rattle.core_model.specs.Files.{Commit, DeviceCall, File, MayLeave, Phase, Progress, done, doubt, failed, first_phase, older, pending, progress, resolving, resolving_sync, settled, switching, switching_sync, writing}
use Rattle.core_model.specs.Passes.{is_pass}
use Rattle.core_model.specs.World.{World, basis_of, after_beginning, after_call, after_end, after_end_in, with_entry, with_entry_or_look, with_look, number_now, opened_world, with_progress, after_refusal, run, step, step_from, steps, tables_now, after_device_call, world_after}
use Rattle.core_model.proofs.Allowed.{IsCut, IsNoOther, began_here, began_more, allowed_opened, is_cut, opens_cut, opens_start}
use Rattle.core_model.proofs.Filing.{IsCallEntry, call_fits, quiet_keeps, quiet_no_end}
use Rattle.core_model.proofs.Growing.{legal_nothing, standing_more}
use Rattle.core_model.proofs.Holding.{Agrees, IsKept, IsProgress, IsSafe, IsUnderWay, StandsIn, agrees_more, is_progress, kept_filed, kept_looked, safe_more}
use Rattle.core_model.proofs.Sound.{IsOf, IsSound, after_of, fits_of, is_of, sound_standing}

pub record Holds (w : World) : Type 0 where
  pub start : IsStart w.basis
  pub kept : IsKept w.basis w.history w.views
  pub commit : Agrees w.basis w.history w.commit w.file
  pub file : IsSafe w.basis w.history w.file
  pub crash : (c : Cut) → w.crash ≡ Some c → IsAllowed w.basis w.history c

-- a file just opened
pub holds_opened : (b : Basis) → IsStart b → Holds (opened_world b)
holds_opened b start = record { start = start; kept = record { legal = legal_nothing b; each = λ c. record { seen = begins_self []; mine = refl; once = refl } }; commit = refl; file = safe; crash = λ c is. absurd (cc) } where
  safe : IsSafe b [] (settled (opened_cut b))
  safe older c is = subst (IsAllowed b []) (same_Some (opened_cut b) c is) (allowed_opened b)
  safe pending c is = absurd (cc)

not_crashed : (w : World) (h : List Entry) (c : Cut) → w.crash ≡ None → w.crash ≡ Some c → IsAllowed w.basis h c
not_crashed w h c up is = absurd (cc)

holds_looked : (w : World) (c : ℕ) → Holds w → Holds (with_look w c)
holds_looked w c h = record { start = h.start; kept = kept_looked w.basis w.history w.views c h.kept; commit = h.commit; file = h.file; crash = h.crash }

sound_now : (w : World) → Holds w → IsSound w.basis (standing w.basis w.history)
sound_now w h = sound_standing w.basis w.history h.start h.kept.legal

-- an entry that neither begins nor ends a commit
holds_filed : (w : World) (c : ℕ) (e : Entry) → w.crash ≡ None → IsCallEntry (standing w.basis w.history) c e → Holds w → Holds (with_entry w c e)
holds_filed w c e up k h =
    let s = standing w.basis w.history in
    let no_end : (m : ℕ) → deed_of e.word ≡ Some (Ended m true) → ⊥ = λ m is. quiet_no_end k.deed m k.quiet (sym k.is.deed_is ∙ is) in
    let same : (after_entry s e).under_way ≡ s.under_way = ap (λ (z : Standing). z.under_way) (after_of s c k.deed e k.is) ∙ quiet_keeps s c k.deed e.brought k.quiet in
    record {
      start = h.start;
      kept = kept_filed w.basis w.history w.views c e k.is.caller_is (fits_of s c k.deed e k.is k.bytes k.fits) h.kept;
      commit = agrees_more w.basis w.history e w.commit w.file no_end same h.commit;
      file = safe_more w.basis w.history e w.file no_end h.file;
      crash = λ d is. not_crashed w (w.history ++ e ∷ []) d up is;
    }

holds_called : (w : World) (c : ℕ) (call : Call) → w.crash ≡ None → c < 255 → is_call call ≡ true → Holds w → Holds (after_call w c call)
holds_called w c call up few is h = go (entry_of_call c call (answer (tables_now w) call)) refl where
  go : (o : Option Entry) → entry_of_call c call (answer (tables_now w) call) ≡ o → Holds (with_entry_or_look w c o)
  go None eq = holds_looked w c h
  go (Some e) eq = holds_filed w c e up (call_fits w.basis (standing w.basis w.history) c call e (omega arith) is h.start (sound_now w h) eq) h

-- the commit under way, as its fields say
pub under_way : (w : World) (k : Commit) → w.commit ≡ Some k → Holds w → IsUnderWay w.basis w.history k w.file
under_way w k is h = subst (λ o. Agrees w.basis w.history o w.file) is h.commit

small_cut : (w : World) (k : Commit) → Holds w → IsUnderWay w.basis w.history k w.file → k.cut.number < 2 ^ 32
small_cut w k h u = (is_cut w.basis w.history k.cut h.start h.kept.legal (inr u.cut)).number

holds_refused : (w : World) (c : ℕ) (o : Option Commit) → w.crash ≡ None → c < 255 → w.commit ≡ o → Holds w → Holds (after_refusal w c o)
holds_refused w c None up few is h = holds_looked w c h
holds_refused w c (Some k) up few is h =
    let u : IsUnderWay w.basis w.history k w.file = under_way w k is h in
    holds_filed w c (entry_of c (Underway k.cut.number) []) up (record { deed = Underway k.cut.number; is = is_of c (Underway k.cut.number) [] (omega arith) (small_cut w k h u); bytes = refl; fits = (refl, (k.caller, u.shown)); quiet = tt }) h

-- an entry that begins or ends a commit
kept_by : (w : World) (c : ℕ) (deed : Deed) → c < 256 → IsDeed deed → DeedFits (standing w.basis w.history) c (Some deed) [] → Holds w → IsKept w.basis (w.history ++ entry_of c deed [] ∷ []) (with_entry w c (entry_of c deed [])).views
kept_by w c deed few small fits h =
    let o : IsOf c deed (entry_of c deed []) = is_of c deed [] few small in
    kept_filed w.basis w.history w.views c (entry_of c deed []) o.caller_is (fits_of (standing w.basis w.history) c deed (entry_of c deed []) o refl fits) h.kept

standing_by : (w : World) (c : ℕ) (deed : Deed) → c < 256 → IsDeed deed → standing w.basis (w.history ++ entry_of c deed [] ∷ []) ≡ after_deed (standing w.basis w.history) c (Some deed) []
standing_by w c deed few small = standing_more w.basis w.history (entry_of c deed []) ∙ after_of (standing w.basis w.history) c deed (entry_of c deed []) (is_of c deed [] few small)

first_not_done : (f : File) → first_phase f ≡ done → ⊥
first_not_done (settled x) e = absurd (cc)
first_not_done (doubt x p) e = absurd (cc)

first_stands : (f : File) → StandsIn (first_phase f) f
first_stands (settled x) = refl
first_stands (doubt x p) = tt

holds_begun : (w : World) (c : ℕ) → w.crash ≡ None → c < 255 → w.commit ≡ None → number_now w < 2 ^ 32 - 1 → Holds w → Holds (after_beginning w c)
holds_begun w c up few idle below h =
    let n = number_now w + 1 in
    let e = entry_of c (Began n) [] in
    let o : IsOf c (Began n) e = is_of c (Began n) [] (omega arith) (omega arith) in
    let free : (standing w.basis w.history).under_way ≡ None = subst (λ o. Agrees w.basis w.history o w.file) idle h.commit in
    let no_end : (m : ℕ) → deed_of e.word ≡ Some (Ended m true) → ⊥ = λ m is. let d : Some (Began n) ≡ Some (Ended m true) = sym o.deed_is ∙ is in cc in
    record {
      start = h.start;
      kept = kept_by w c (Began n) (omega arith) (omega arith) (refl, free, refl) h;
      commit = record {
        few = few;
        shown = ap (λ (z : Standing). z.under_way) (standing_by w c (Began n) (omega arith) (omega arith));
        cut = began_here w.basis w.history n e o.deed_is;
        stands = first_stands w.file;
        finished = λ d. absurd (first_not_done w.file d);
      };
      file = safe_more w.basis w.history e w.file no_end h.file;
      crash = λ d is. not_crashed w (w.history ++ e ∷ []) d up is;
    }

holds_progressed : (w : World) (k : Commit) (call : DeviceCall) (ok : Bool) (o : Option Progress) → progress k.cut w.file k.phase call ok ≡ o → w.commit ≡ Some k → Holds w → Holds (with_progress w k o)
holds_progressed w k call ok None eq is h = h
holds_progressed w k call ok (Some p) eq is h =
    let u : IsUnderWay w.basis w.history k w.file = under_way w k is h in
    let q : IsProgress k.cut w.file call ok p = is_progress k.cut w.file k.phase call ok p u.stands eq in
    record {
      start = h.start;
      kept = h.kept;
      commit = record { few = u.few; shown = u.shown; cut = u.cut; stands = q.stands; finished = q.finished };
      file = λ which c held. ⊎_elim (λ (new : c ≡ k.cut). subst (IsAllowed w.basis w.history) (sym new) (inr u.cut)) (λ (old : MayLeave w.file c). h.file old.0 c old.1) (q.holds which c held);
      crash = h.crash;
    }

holds_worked : (w : World) (o : Option Commit) (call : DeviceCall) (ok : Bool) → w.commit ≡ o → Holds w → Holds (after_device_call w o call ok)
holds_worked w None call ok is h = h
holds_worked w (Some k) call ok is h = holds_progressed w k call ok (progress k.cut w.file k.phase call ok) refl is h

-- what an end leaves, where each cut that a crash may leave is allowed behind it
holds_end : (w : World) (k : Commit) (ok : Bool) → w.crash ≡ None → IsUnderWay w.basis w.history k w.file → IsSafe w.basis (w.history ++ entry_of k.caller (Ended k.cut.number ok) [] ∷ []) w.file → Holds w →
    Holds (record (with_entry w k.caller (entry_of k.caller (Ended k.cut.number ok) [])) { commit = None })
holds_end w k ok up u safe h = record {
  start = h.start;
  kept = kept_by w k.caller (Ended k.cut.number ok) (omega (arith, u.few)) (small_cut w k h u) (refl, u.shown) h;
  commit = ap (λ (z : Standing). z.under_way) (standing_by w k.caller (Ended k.cut.number ok) (omega (arith, u.few)) (small_cut w k h u));
  file = safe;
  crash = λ d is. not_crashed w (w.history ++ entry_of k.caller (Ended k.cut.number ok) [] ∷ []) d up is;
}

holds_ended_in : (w : World) (k : Commit) (phase : Phase) → w.crash ≡ None → k.phase ≡ phase → IsUnderWay w.basis w.history k w.file → Holds w → Holds (after_end_in w k phase)
holds_ended_in w k done up at u h = holds_end w k true up u (subst (IsSafe w.basis behind) (sym (u.finished at)) safe) h where
  e : Entry
  e = entry_of k.caller (Ended k.cut.number true) []

  behind : List Entry
  behind = w.history ++ e ∷ []

  only : IsNoOther k.cut.number e
  only m is = let d : Some (Ended k.cut.number true) ≡ Some (Ended m true) = sym (is_of k.caller (Ended k.cut.number true) [] (omega (arith, u.few)) (small_cut w k h u)).deed_is ∙ is in cc

  safe : IsSafe w.basis behind (settled k.cut)
  safe older c is = subst (IsAllowed w.basis behind) (same_Some k.cut c is) (inr (began_more w.basis w.history k.cut e only u.cut))
  safe pending c is = absurd (cc)
holds_ended_in w k failed up at u h = holds_end w k false up u (safe_more w.basis w.history e w.file not_one h.file) h where
  e : Entry
  e = entry_of k.caller (Ended k.cut.number false) []

  not_one : (m : ℕ) → deed_of e.word ≡ Some (Ended m true) → ⊥
  not_one m is = let d : Some (Ended k.cut.number false) ≡ Some (Ended m true) = sym (is_of k.caller (Ended k.cut.number false) [] (omega (arith, u.few)) (small_cut w k h u)).deed_is ∙ is in let f : false ≡ true = cc in cc
holds_ended_in w k resolving up at u h = h
holds_ended_in w k resolving_sync up at u h = h
holds_ended_in w k writing up at u h = h
holds_ended_in w k switching up at u h = h
holds_ended_in w k switching_sync up at u h = h

-- of the world that a test chooses holds what holds of both
pub chosen : (P : World → Type 0) (t : Bool) (v w : World) → (t ≡ true → P v) → P w → P (cond t v w)
chosen P true v w p q = p refl
chosen P false v w p q = q

holds_ended : (w : World) (c : ℕ) (o : Option Commit) → w.crash ≡ None → w.commit ≡ o → Holds w → Holds (after_end w c o)
holds_ended w c None up is h = h
holds_ended w c (Some k) up is h = chosen Holds (k.caller == c) (after_end_in w k k.phase) w (λ own. holds_ended_in w k k.phase up refl (under_way w k is h) h) h

none_from_test : (o : Option Commit) → is_none o ≡ true → o ≡ None
none_from_test None e = refl
none_from_test (Some k) e = absurd (grind arith)

holds_run : (w : World) (event : Event) → w.crash ≡ None → Holds w → Holds (run w event)
holds_run w (calls c call) up h =
    chosen Holds (is_pass c && is_call call) (after_call w c call) w (λ t. let p = and_parts (is_pass c) (is_call call) t in holds_called w c call up (ltb-true c 255 p.0) p.1 h) h
holds_run w (asks_commit c) up h = chosen Holds (is_pass c) (after_refusal w c w.commit) w (λ t. holds_refused w c w.commit up (ltb-true c 255 t) refl h) h
holds_run w (begins c) up h =
    chosen Holds (is_pass c && is_none w.commit && ltb (number_now w) (2 ^ 32 - 1)) (after_beginning w c) w (λ t.
    let p = and_parts (is_pass c && is_none w.commit) (ltb (number_now w) (2 ^ 32 - 1)) t in
    let q = and_parts (is_pass c) (is_none w.commit) p.0 in
    holds_begun w c up (ltb-true c 255 q.0) (none_from_test w.commit q.1) (ltb-true (number_now w) (2 ^ 32 - 1) p.1) h) h
holds_run w (calls_device call ok) up h = holds_worked w w.commit call ok refl h
holds_run w (ends c) up h = holds_ended w c w.commit up refl h
holds_run w (dies c) up h = h
holds_run w (crashes which) up h = record { start = h.start; kept = h.kept; commit = h.commit; file = h.file; crash = λ c is. h.file which c is }
holds_run w (reopens others) up h = h

holds_step : (w : World) (event : Event) (o : Option Cut) → w.crash ≡ o → Holds w → Holds (step_from o w event)
holds_step w event None is h = holds_run w event is h
holds_step w (calls d call) (Some c) is h = h
holds_step w (asks_commit d) (Some c) is h = h
holds_step w (begins d) (Some c) is h = h
holds_step w (calls_device call ok) (Some c) is h = h
holds_step w (ends d) (Some c) is h = h
holds_step w (dies d) (Some c) is h = h
holds_step w (crashes which) (Some c) is h = h
holds_step w (reopens others) (Some c) is h = holds_opened (basis_of w.basis c others) (opens_start w.basis c others h.start (is_cut w.basis w.history c h.start h.kept.legal (h.crash c is)))

holds_steps : (w : World) (events : List Event) → Holds w → Holds (steps w events)
holds_steps w [] h = h
holds_steps w (event ∷ events) h = holds_steps (step w event) events (holds_step w event w.crash refl h)

-- what holds after any events
pub holds_always : (b : Basis) (events : List Event) → IsStart b → Holds (world_after b events)
holds_always b events start = holds_steps (opened_world b) events (holds_opened b start)

-- the opening after a crash

cut_of_crash : (w : World) (c : Cut) → w.crash ≡ Some c → Holds w → IsCut w.basis c
cut_of_crash w c is h = is_cut w.basis w.history c h.start h.kept.legal (h.crash c is)

after_crash : (w : World) (c : Cut) (others : List ℕ) → w.crash ≡ Some c → step w (reopens others) ≡ opened_world (basis_of w.basis c others)
after_crash w c others is = ap (λ o. step_from o w (reopens others)) is

pub reopened_cut : (w : World) (c : Cut) (others : List ℕ) → w.crash ≡ Some c → Holds w → opened_cut (step w (reopens others)).basis ≡ c
reopened_cut w c others is h = ap (λ (v : World). opened_cut v.basis) (after_crash w c others is) ∙ opens_cut w.basis c others (cut_of_crash w c is h).within

pub reopened_file : (w : World) (c : Cut) (others : List ℕ) → w.crash ≡ Some c → Holds w → (step w (reopens others)).file ≡ settled c
reopened_file w c others is h = ap (λ (v : World). v.file) (after_crash w c others is) ∙ ap settled (opens_cut w.basis c others (cut_of_crash w c is h).within)

pub reopened_start : (w : World) (c : Cut) (others : List ℕ) → w.crash ≡ Some c → Holds w → IsStart (step w (reopens others)).basis
reopened_start w c others is h = subst (λ (v : World). IsStart v.basis) (sym (after_crash w c others is)) (opens_start w.basis c others h.start (cut_of_crash w c is h))

pub reopened_anew : (w : World) (c : Cut) (others : List ℕ) → w.crash ≡ Some c → step w (reopens others) ≡ opened_world (step w (reopens others)).basis
reopened_anew w c others is = let e = after_crash w c others is in e ∙ ap (λ (v : World). opened_world v.basis) (sym e)

limits_kept : (b : Basis) (c : Cut) (others : List ℕ) (place : ℕ) → 0 < place → place < 7 → number_at place (basis_of b c others) ≡ number_at place b
limits_kept b c others zero above below = absurd (omega arith)
limits_kept b c others (suc zero) above below = refl
limits_kept b c others (suc (suc zero)) above below = refl
limits_kept b c others (suc (suc (suc zero))) above below = refl
limits_kept b c others (suc (suc (suc (suc zero)))) above below = refl
limits_kept b c others (suc (suc (suc (suc (suc zero))))) above below = refl
limits_kept b c others (suc (suc (suc (suc (suc (suc zero)))))) above below = refl
limits_kept b c others (suc (suc (suc (suc (suc (suc (suc place))))))) above below = absurd (omega arith)

pub reopened_limits : (w : World) (c : Cut) (others : List ℕ) → w.crash ≡ Some c → (place : ℕ) → 0 < place → place < 7 → number_at place (step w (reopens others)).basis ≡ number_at place w.basis
reopened_limits w c others is place above below = ap (λ (v : World). number_at place v.basis) (after_crash w c others is) ∙ limits_kept w.basis c others place above below
