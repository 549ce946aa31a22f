-- What the callers have seen and what the file may hold, from one event to the next.
use Rattle.std.proofs.Common.{◌≡◌, ◌≢◌, ◌-◌, ◌^◌, ◌==◌, ℕ, Bool, true, cond, ltb, [], ◌∷◌, ◌++◌, Option, Some, None, refl, sym, subst}
use Rattle.std.specs.Prelude.{◌&&◌, is_none}
use Rattle.turnstile.specs.declared.history.Entry.{Entry}
use Rattle.turnstile.specs.Histories.{Begins}
use Rattle.turnstile.proofs.Beginnings.{begins_more, begins_self}
use Rattle.table_model.specs.Calls.{answer, is_call}
use Rattle.table_model.specs.Cut.{Cut}
use Rattle.core_model.specs.Entries.{entry_of_call}
use Rattle.core_model.specs.Events.{Event, asks_commit, begins, calls, calls_device, crashes, dies, ends, reopens}
use Rattle.core_model.specs.Files.{Commit, DeviceCall, MayLeave, Phase, Progress, done, failed, progress, resolving, resolving_sync, switching, switching_sync, sync, writing}
use Rattle.core_model.specs.Passes.{is_pass}
use Rattle.core_model.specs.World.{World, after_beginning, after_call, after_end, after_end_in, with_entry, with_entry_or_look, with_look, number_now, with_progress, after_refusal, run, step, step_from, tables_now, after_device_call}
use Rattle.core_model.proofs.Holding.{IsUnderWay, changed_view, is_progress}
use Rattle.core_model.proofs.Running.{Holds, chosen, under_way}

-- the basis is the same, and the history is what it was, and maybe more, and so is what each caller has seen
pub record IsLonger (w v : World) : Type 0 where
  pub basis : v.basis ≡ w.basis
  pub grows : Begins w.history v.history
  pub seen : (c : ℕ) → Begins (w.views c).seen (v.views c).seen

longer_self : (w : World) → IsLonger w w
longer_self w = record { basis = refl; grows = begins_self w.history; seen = λ c. begins_self (w.views c).seen }

-- and the file is the same
record IsLater (w v : World) : Type 0 where
  longer : IsLonger w v
  file : v.file ≡ w.file

later_self : (w : World) → IsLater w w
later_self w = record { longer = longer_self w; file = refl }

later_looked : (w : World) (c : ℕ) → Holds w → IsLater w (with_look w c)
later_looked w c h = record {
  longer = record {
    basis = refl;
    grows = begins_self w.history;
    seen = changed_view (λ d v. Begins (w.views d).seen v.seen) w.views c (record { seen = w.history; mine = (w.views c).mine }) (h.kept.each c).seen (λ d other. begins_self (w.views d).seen);
  };
  file = refl;
}

later_filed : (w : World) (c : ℕ) (e : Entry) → Holds w → IsLater w (with_entry w c e)
later_filed w c e h = record {
  longer = record {
    basis = refl;
    grows = begins_more w.history w.history e (begins_self w.history);
    seen = changed_view (λ d v. Begins (w.views d).seen v.seen) w.views c (record { seen = w.history ++ e ∷ []; mine = (w.views c).mine ++ e ∷ [] }) (begins_more (w.views c).seen w.history e (h.kept.each c).seen) (λ d other. begins_self (w.views d).seen);
  };
  file = refl;
}

later_called : (w : World) (c : ℕ) (o : Option Entry) → Holds w → IsLater w (with_entry_or_look w c o)
later_called w c None h = later_looked w c h
later_called w c (Some e) h = later_filed w c e h

later_refused : (w : World) (c : ℕ) (o : Option Commit) → Holds w → IsLater w (after_refusal w c o)
later_refused w c None h = later_looked w c h
later_refused w c (Some k) h = later_filed w c _ h

later_begun : (w : World) (c : ℕ) → Holds w → IsLater w (after_beginning w c)
later_begun w c h = let l = later_filed w c _ h in record { longer = record { basis = refl; grows = l.longer.grows; seen = l.longer.seen }; file = refl }

later_ended_in : (w : World) (k : Commit) (phase : Phase) → Holds w → IsLater w (after_end_in w k phase)
later_ended_in w k done h = let l = later_filed w k.caller _ h in record { longer = record { basis = refl; grows = l.longer.grows; seen = l.longer.seen }; file = refl }
later_ended_in w k failed h = let l = later_filed w k.caller _ h in record { longer = record { basis = refl; grows = l.longer.grows; seen = l.longer.seen }; file = refl }
later_ended_in w k resolving h = later_self w
later_ended_in w k resolving_sync h = later_self w
later_ended_in w k writing h = later_self w
later_ended_in w k switching h = later_self w
later_ended_in w k switching_sync h = later_self w

later_if : (t : Bool) (v w : World) → IsLater w v → IsLater w (cond t v w)
later_if t v w l = chosen (IsLater w) t v w (λ on. l) (later_self w)

later_ended : (w : World) (c : ℕ) (o : Option Commit) → Holds w → IsLater w (after_end w c o)
later_ended w c None h = later_self w
later_ended w c (Some k) h = later_if (k.caller == c) (after_end_in w k k.phase) w (later_ended_in w k k.phase h)

-- the views and the history alone
seen_progressed : (w : World) (k : Commit) (o : Option Progress) → (with_progress w k o).views ≡ w.views
seen_progressed w k None = refl
seen_progressed w k (Some p) = refl

pub seen_worked : (w : World) (o : Option Commit) (call : DeviceCall) (ok : Bool) → (after_device_call w o call ok).views ≡ w.views
seen_worked w None call ok = refl
seen_worked w (Some k) call ok = seen_progressed w k (progress k.cut w.file k.phase call ok)

longer_progressed : (w : World) (k : Commit) (o : Option Progress) → IsLonger w (with_progress w k o)
longer_progressed w k None = longer_self w
longer_progressed w k (Some p) = record { basis = refl; grows = begins_self w.history; seen = λ c. begins_self (w.views c).seen }

longer_worked : (w : World) (o : Option Commit) (call : DeviceCall) (ok : Bool) → IsLonger w (after_device_call w o call ok)
longer_worked w None call ok = longer_self w
longer_worked w (Some k) call ok = longer_progressed w k (progress k.cut w.file k.phase call ok)

longer_run : (w : World) (event : Event) → Holds w → IsLonger w (run w event)
longer_run w (calls d call) h = (later_if (is_pass d && is_call call) (after_call w d call) w (later_called w d (entry_of_call d call (answer (tables_now w) call)) h)).longer
longer_run w (asks_commit d) h = (later_if (is_pass d) (after_refusal w d w.commit) w (later_refused w d w.commit h)).longer
longer_run w (begins d) h = (later_if (is_pass d && is_none w.commit && ltb (number_now w) (2 ^ 32 - 1)) (after_beginning w d) w (later_begun w d h)).longer
longer_run w (calls_device call ok) h = longer_worked w w.commit call ok
longer_run w (ends d) h = (later_ended w d w.commit h).longer
longer_run w (dies d) h = longer_self w
longer_run w (crashes which) h = record { basis = refl; grows = begins_self w.history; seen = λ c. begins_self (w.views c).seen }
longer_run w (reopens others) h = longer_self w

-- the history and what a caller has seen begin what they are behind an event
pub longer : (w : World) (event : Event) → w.crash ≡ None → Holds w → IsLonger w (step w event)
longer w event up h = subst (λ o. IsLonger w (step_from o w event)) (sym up) (longer_run w event h)

-- the file

kept_cut : (w v : World) (c : Cut) → IsLater w v → MayLeave w.file c → MayLeave v.file c
kept_cut w v c l may = subst (λ f. MayLeave f c) (sym l.file) may

stays_progressed : (w : World) (k : Commit) (call : DeviceCall) (ok : Bool) (c : Cut) (o : Option Progress) → progress k.cut w.file k.phase call ok ≡ o → ((call ≡ sync) × (ok ≡ true) → ⊥) → IsUnderWay w.basis w.history k w.file → MayLeave w.file c → MayLeave (with_progress w k o).file c
stays_progressed w k call ok c None eq other u may = may
stays_progressed w k call ok c (Some p) eq other u may = (is_progress k.cut w.file k.phase call ok p u.stands eq).stays other c may

stays_worked : (w : World) (call : DeviceCall) (ok : Bool) (c : Cut) (o : Option Commit) → w.commit ≡ o → ((call ≡ sync) × (ok ≡ true) → ⊥) → Holds w → MayLeave w.file c → MayLeave (after_device_call w o call ok).file c
stays_worked w call ok c None is other h may = may
stays_worked w call ok c (Some k) is other h may = stays_progressed w k call ok c (progress k.cut w.file k.phase call ok) refl other (under_way w k is h) may

stays_run : (w : World) (event : Event) (c : Cut) → event ≢ calls_device sync true → Holds w → MayLeave w.file c → MayLeave (run w event).file c
stays_run w (calls d call) c other h may = kept_cut w (run w (calls d call)) c (later_if (is_pass d && is_call call) (after_call w d call) w (later_called w d (entry_of_call d call (answer (tables_now w) call)) h)) may
stays_run w (asks_commit d) c other h may = kept_cut w (run w (asks_commit d)) c (later_if (is_pass d) (after_refusal w d w.commit) w (later_refused w d w.commit h)) may
stays_run w (begins d) c other h may = kept_cut w (run w (begins d)) c (later_if (is_pass d && is_none w.commit && ltb (number_now w) (2 ^ 32 - 1)) (after_beginning w d) w (later_begun w d h)) may
stays_run w (calls_device call ok) c other h may = stays_worked w call ok c w.commit refl (λ p. let a : call ≡ sync = p.0 in let b : ok ≡ true = p.1 in other (cc)) h may
stays_run w (ends d) c other h may = kept_cut w (run w (ends d)) c (later_ended w d w.commit h) may
stays_run w (dies d) c other h may = may
stays_run w (crashes which) c other h may = may
stays_run w (reopens others) c other h may = may

-- what a crash may leave stays so, unless a sync is done
pub stays : (w : World) (event : Event) (c : Cut) → w.crash ≡ None → event ≢ calls_device sync true → Holds w → MayLeave w.file c → MayLeave (step w event).file c
stays w event c up other h may = subst (λ o. MayLeave (step_from o w event).file c) (sym up) (stays_run w event c other h may)
