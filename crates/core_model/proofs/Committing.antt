-- What the events of a commit make of the world, and how one fails.
use Rattle.std.proofs.Common.{◌≡◌, ◌≢◌, ◌<◌, ◌-◌, ◌^◌, ◌==◌, ℕ, Bool, true, false, cond, ltb, [], Option, Some, None, ◌⊎◌, inl, inr, refl, sym, ap, ◌∙◌, subst}
use Rattle.std.specs.Prelude.{◌&&◌, is_none}
use Rattle.std.proofs.lemmas.Bool.{and_from, and_parts, eq-eqb, lt-ltb, ne_eqb}
use Rattle.std.proofs.lemmas.Option.{same_Some}
use Rattle.turnstile.specs.declared.history.Entry.{Entry}
use Rattle.call_journal.specs.declared.deed.Deed.TheVariants.{Underway}
use Rattle.table_model.specs.Calls.{answer, is_call}
use Rattle.table_model.specs.Cut.{Cut}
use Rattle.core_model.specs.Entries.{entry_of, entry_of_call}
use Rattle.core_model.specs.Events.{Event, asks_commit, begins, calls, calls_device, crashes, dies, ends, reopens}
use Rattle.core_model.specs.Files.{Commit, DeviceCall, File, MayLeave, Phase, Progress, Which, done, doubt, failed, first_phase, progress, resolution, resolving, resolving_sync, settled, switching, switching_sync, sync, write, write_super, writing}
use Rattle.core_model.specs.Law.{has_call}
use Rattle.core_model.specs.Passes.{is_pass}
use Rattle.core_model.specs.World.{World, after_beginning, after_call, after_end, after_end_in, with_entry_or_look, with_look, number_now, with_progress, after_refusal, run, step, step_from, tables_now, after_device_call}
use Rattle.core_model.proofs.Own.{filed_seen}
use Rattle.core_model.proofs.Running.{chosen}

-- while no crash has come

pub step_up : (w : World) (event : Event) → w.crash ≡ None → step w event ≡ run w event
step_up w event up = ap (λ o. step_from o w event) up

pub step_asked : (w : World) (c : ℕ) (o : Option Commit) → w.crash ≡ None → is_pass c ≡ true → w.commit ≡ o → step w (asks_commit c) ≡ after_refusal w c o
step_asked w c o up pass is = step_up w (asks_commit c) up ∙ ap (λ t. cond t (after_refusal w c w.commit) w) pass ∙ ap (after_refusal w c) is

-- what a pass that asks for a commit leaves of the history, and has seen of it
pub asked_history : (w : World) (c : ℕ) → w.crash ≡ None → w.commit ≡ None → (step w (asks_commit c)).history ≡ w.history
asked_history w c up idle =
    ap (λ (v : World). v.history) (step_up w (asks_commit c) up) ∙ ap (λ o. (cond (is_pass c) (after_refusal w c o) w).history) idle ∙ chosen (λ v. v.history ≡ w.history) (is_pass c) (with_look w c) w (λ on. refl) refl

seen_asked : (w : World) (c : ℕ) (o : Option Commit) → ((after_refusal w c o).views c).seen ≡ (after_refusal w c o).history
seen_asked w c None = filed_seen w c None
seen_asked w c (Some k) = filed_seen w c (Some (entry_of c (Underway k.cut.number) []))

pub asked_seen : (w : World) (c : ℕ) → w.crash ≡ None → is_pass c ≡ true → ((step w (asks_commit c)).views c).seen ≡ (step w (asks_commit c)).history
asked_seen w c up pass = subst (λ (v : World). (v.views c).seen ≡ v.history) (sym (step_asked w c w.commit up pass refl)) (seen_asked w c w.commit)

pub step_begun : (w : World) (c : ℕ) → w.crash ≡ None → is_pass c ≡ true → w.commit ≡ None → number_now w < 2 ^ 32 - 1 → step w (begins c) ≡ after_beginning w c
step_begun w c up pass idle few =
    step_up w (begins c) up ∙ ap (λ t. cond t (after_beginning w c) w) (and_from (is_pass c && is_none w.commit) (ltb (number_now w) (2 ^ 32 - 1)) (and_from (is_pass c) (is_none w.commit) pass (ap is_none idle)) (lt-ltb (number_now w) (2 ^ 32 - 1) few))

pub step_worked : (w : World) (k : Commit) (call : DeviceCall) (ok : Bool) → w.crash ≡ None → w.commit ≡ Some k → step w (calls_device call ok) ≡ with_progress w k (progress k.cut w.file k.phase call ok)
step_worked w k call ok up is = step_up w (calls_device call ok) up ∙ ap (λ o. after_device_call w o call ok) is

pub step_ended : (w : World) (k : Commit) (phase : Phase) → w.crash ≡ None → w.commit ≡ Some k → k.phase ≡ phase → step w (ends k.caller) ≡ after_end_in w k phase
step_ended w k phase up is at = step_up w (ends k.caller) up ∙ ap (after_end w k.caller) is ∙ ap (λ t. cond t (after_end_in w k k.phase) w) (eq-eqb k.caller k.caller refl) ∙ ap (after_end_in w k) at

-- each cut that a crash may leave is left by one
pub crash_comes : (w : World) (c : Cut) → w.crash ≡ None → MayLeave w.file c → (which : Which) × ((step w (crashes which)).crash ≡ Some c)
crash_comes w c up may = (may.0, ap (λ (v : World). v.crash) (step_up w (crashes may.0) up) ∙ may.1)

-- a file in doubt is settled on its pending cut
pub resolves : (w : World) (k : Commit) (x p : Cut) → w.crash ≡ None → w.commit ≡ Some k → k.phase ≡ resolving_sync → w.file ≡ doubt x p → (step w (calls_device sync true)).file ≡ settled p
resolves w k x p up is at in_doubt =
    ap (λ (v : World). v.file) (step_worked w k sync true up is ∙ ap (λ phase. with_progress w k (progress k.cut w.file phase sync true)) at) ∙ ap resolution in_doubt

-- how a commit fails

failing : (new : Cut) (f : File) (phase : Phase) (call : DeviceCall) → has_call phase call ≡ true → (g : File) × (progress new f phase call false ≡ Some (record { file = g; phase = failed }))
failing new f resolving write_super e = (_, refl)
failing new f resolving_sync sync e = (_, refl)
failing new f writing write e = (_, refl)
failing new f writing sync e = (_, refl)
failing new f switching write_super e = (_, refl)
failing new f switching_sync sync e = (_, refl)
failing new f _ call e = absurd (cc)

pub stops : (w : World) (k : Commit) (call : DeviceCall) → w.crash ≡ None → w.commit ≡ Some k → has_call k.phase call ≡ true → (step w (calls_device call false)).commit ≡ Some (record k { phase = failed })
stops w k call up is has = ap (λ (v : World). v.commit) (step_worked w k call false up is ∙ ap (with_progress w k) (failing k.cut w.file k.phase call has).1)

-- a call that is done fails no commit
not_failing : (new : Cut) (f : File) (phase : Phase) (call : DeviceCall) (p : Progress) → progress new f phase call true ≡ Some p → p.phase ≢ failed
not_failing new f resolving write_super p e at = absurd (cc)
not_failing new f resolving_sync sync p e at = absurd (cc)
not_failing new f writing write p e at = absurd (cc)
not_failing new f writing sync p e at = absurd (cc)
not_failing new f switching write_super p e at = absurd (cc)
not_failing new f switching_sync sync p e at = absurd (cc)
not_failing new f _ call p e at = absurd (cc)

first_not_failed : (f : File) → first_phase f ≢ failed
first_not_failed (settled x) e = absurd (cc)
first_not_failed (doubt x p) e = absurd (cc)

-- What an event leaves of a failed commit: it was there, or a call of the device failed.
abbrev IsBlamed : World → Event → Option Commit → Type 0
IsBlamed w event o = (k : Commit) → o ≡ Some k → k.phase ≡ failed → (w.commit ≡ Some k) ⊎ ((call : DeviceCall) × (event ≡ calls_device call false))

blamed_same : (w : World) (event : Event) (o : Option Commit) → w.commit ≡ o → IsBlamed w event o
blamed_same w event o same k is at = inl (same ∙ is)

blamed_if : (w : World) (event : Event) (t : Bool) (v : World) → IsBlamed w event v.commit → IsBlamed w event (cond t v w).commit
blamed_if w event t v a = chosen (λ u. IsBlamed w event u.commit) t v w (λ on. a) (blamed_same w event w.commit refl)

called_commit : (w : World) (c : ℕ) (o : Option Entry) → w.commit ≡ (with_entry_or_look w c o).commit
called_commit w c None = refl
called_commit w c (Some e) = refl

refused_same : (w : World) (c : ℕ) (o : Option Commit) → w.commit ≡ (after_refusal w c o).commit
refused_same w c None = refl
refused_same w c (Some k) = refl

blamed_begun : (w : World) (c : ℕ) → IsBlamed w (begins c) (after_beginning w c).commit
blamed_begun w c k is at = absurd (first_not_failed w.file (ap (λ (z : Commit). z.phase) (same_Some _ k is) ∙ at))

blamed_progressed : (w : World) (j : Commit) (call : DeviceCall) (o : Option Progress) → progress j.cut w.file j.phase call true ≡ o → IsBlamed w (calls_device call true) (with_progress w j o).commit
blamed_progressed w j call None eq k same at = inl same
blamed_progressed w j call (Some p) eq k same at = absurd (not_failing j.cut w.file j.phase call p eq (ap (λ (z : Commit). z.phase) (same_Some _ k same) ∙ at))

blamed_worked : (w : World) (call : DeviceCall) (ok : Bool) (o : Option Commit) → IsBlamed w (calls_device call ok) (after_device_call w o call ok).commit
blamed_worked w call false o k same at = inr (call, refl)
blamed_worked w call true None k same at = inl same
blamed_worked w call true (Some j) k same at = blamed_progressed w j call (progress j.cut w.file j.phase call true) refl k same at

blamed_ended_in : (w : World) (c : ℕ) (j : Commit) (phase : Phase) → IsBlamed w (ends c) (after_end_in w j phase).commit
blamed_ended_in w c j done k is at = absurd (cc)
blamed_ended_in w c j failed k is at = absurd (cc)
blamed_ended_in w c j _ k is at = inl is

blamed_ended : (w : World) (c : ℕ) (o : Option Commit) → IsBlamed w (ends c) (after_end w c o).commit
blamed_ended w c None = blamed_same w (ends c) w.commit refl
blamed_ended w c (Some j) = blamed_if w (ends c) (j.caller == c) (after_end_in w j j.phase) (blamed_ended_in w c j j.phase)

blamed_run : (w : World) (event : Event) → IsBlamed w event (run w event).commit
blamed_run w (calls c call) = blamed_if w (calls c call) (is_pass c && is_call call) (after_call w c call) (blamed_same w (calls c call) _ (called_commit w c (entry_of_call c call (answer (tables_now w) call))))
blamed_run w (asks_commit c) = blamed_if w (asks_commit c) (is_pass c) (after_refusal w c w.commit) (blamed_same w (asks_commit c) _ (refused_same w c w.commit))
blamed_run w (begins c) = blamed_if w (begins c) (is_pass c && is_none w.commit && ltb (number_now w) (2 ^ 32 - 1)) (after_beginning w c) (blamed_begun w c)
blamed_run w (calls_device call ok) = blamed_worked w call ok w.commit
blamed_run w (ends c) = blamed_ended w c w.commit
blamed_run w (dies c) = blamed_same w (dies c) w.commit refl
blamed_run w (crashes which) = blamed_same w (crashes which) w.commit refl
blamed_run w (reopens others) = blamed_same w (reopens others) w.commit refl

pub fails : (w : World) (event : Event) (k : Commit) → w.crash ≡ None → (step w event).commit ≡ Some k → k.phase ≡ failed → (w.commit ≡ Some k) ⊎ ((call : DeviceCall) × (event ≡ calls_device call false))
fails w event k up is at = blamed_run w event k (ap (λ (v : World). v.commit) (sym (step_up w event up)) ∙ is) at

-- a failed commit stays

stays_if : (w : World) (t : Bool) (v : World) → v.commit ≡ w.commit → (cond t v w).commit ≡ w.commit
stays_if w t v same = chosen (λ u. u.commit ≡ w.commit) t v w (λ on. same) refl

stays_run : (w : World) (k : Commit) (event : Event) → w.commit ≡ Some k → k.phase ≡ failed → event ≢ ends k.caller → (run w event).commit ≡ w.commit
stays_run w k (calls c call) is at other = stays_if w (is_pass c && is_call call) (after_call w c call) (sym (called_commit w c (entry_of_call c call (answer (tables_now w) call))))
stays_run w k (asks_commit c) is at other = stays_if w (is_pass c) (after_refusal w c w.commit) (sym (refused_same w c w.commit))
stays_run w k (begins c) is at other =
    chosen (λ u. u.commit ≡ w.commit) (is_pass c && is_none w.commit && ltb (number_now w) (2 ^ 32 - 1)) (after_beginning w c) w (λ t.
    let free = (and_parts (is_pass c) (is_none w.commit) (and_parts (is_pass c && is_none w.commit) (ltb (number_now w) (2 ^ 32 - 1)) t).0).1 in
    absurd (let e : false ≡ true = sym (ap is_none is) ∙ free in cc)) refl
stays_run w k (calls_device call ok) is at other = ap (λ o. (after_device_call w o call ok).commit) is ∙ ap (λ phase. (with_progress w k (progress k.cut w.file phase call ok)).commit) at
stays_run w k (ends c) is at other = ap (λ o. (after_end w c o).commit) is ∙ ap (λ t. (cond t (after_end_in w k k.phase) w).commit) (ne_eqb k.caller c (λ same. other (ap ends (sym same))))
stays_run w k (dies c) is at other = refl
stays_run w k (crashes which) is at other = refl
stays_run w k (reopens others) is at other = refl

pub halts : (w : World) (k : Commit) (event : Event) → w.crash ≡ None → w.commit ≡ Some k → k.phase ≡ failed → event ≢ ends k.caller → (step w event).commit ≡ Some k
halts w k event up is at other = ap (λ (v : World). v.commit) (step_up w event up) ∙ stays_run w k event is at other ∙ is
