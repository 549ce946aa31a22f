-- Events whose condition does not hold change nothing.
use Rattle.std.proofs.Common.{◌≡◌, ◌==◌, ℕ, Bool, true, false, cond, Option, Some, None, refl, sym, ap, ◌∙◌}
use Rattle.std.specs.Prelude.{◌&&◌, is_some}
use Rattle.table_model.specs.Cut.{Cut}
use Rattle.core_model.specs.Effects.{happens, has_call_now, has_effect, is_opening, is_over, is_over_for}
use Rattle.core_model.specs.Events.{Event, asks_commit, begins, calls, calls_device, crashes, dies, ends, reopens}
use Rattle.core_model.specs.Files.{Commit, DeviceCall, File, Phase, done, failed, cut_left, progress, resolving, resolving_sync, switching, switching_sync, sync, write, write_super, writing}
use Rattle.core_model.specs.Law.{has_call}
use Rattle.core_model.specs.World.{World, after_beginning, after_call, after_end, after_end_in, with_progress, after_refusal, run, step, step_from, after_device_call}

-- a phase that does not have the call
no_progress : (new : Cut) (f : File) (phase : Phase) (call : DeviceCall) (ok : Bool) → has_call phase call ≡ false → progress new f phase call ok ≡ None
no_progress new f resolving write_super ok e = absurd cc
no_progress new f resolving_sync sync ok e = absurd cc
no_progress new f writing write ok e = absurd cc
no_progress new f writing sync ok e = absurd cc
no_progress new f switching write_super ok e = absurd cc
no_progress new f switching_sync sync ok e = absurd cc
no_progress new f _ call ok e = refl

idle_worked : (w : World) (o : Option Commit) (call : DeviceCall) (ok : Bool) → has_call_now o call ≡ false → after_device_call w o call ok ≡ w
idle_worked w None call ok e = refl
idle_worked w (Some k) call ok e = ap (with_progress w k) (no_progress k.cut w.file k.phase call ok e)

-- a commit that is not over
idle_ended_in : (w : World) (k : Commit) (phase : Phase) → is_over phase ≡ false → after_end_in w k phase ≡ w
idle_ended_in w k done e = absurd cc
idle_ended_in w k failed e = absurd cc
idle_ended_in w k _ e = refl

idle_ended : (w : World) (o : Option Commit) (c : ℕ) → is_over_for o c ≡ false → after_end w c o ≡ w
idle_ended w None c e = refl
idle_ended w (Some k) c e = go (k.caller == c) e where
  go : (t : Bool) → (t && is_over k.phase) ≡ false → cond t (after_end_in w k k.phase) w ≡ w
  go true e = idle_ended_in w k k.phase e
  go false e = refl

no_cut : (o : Option Cut) → is_some o ≡ false → o ≡ None
no_cut None e = refl
no_cut (Some c) e = absurd cc

idle_run : (w : World) (event : Event) → w.crash ≡ None → has_effect w event ≡ false → run w event ≡ w
idle_run w (calls c call) up e = ap (λ t. cond t (after_call w c call) w) e
idle_run w (asks_commit c) up e = ap (λ t. cond t (after_refusal w c w.commit) w) e
idle_run w (begins c) up e = ap (λ t. cond t (after_beginning w c) w) e
idle_run w (calls_device call ok) up e = idle_worked w w.commit call ok e
idle_run w (ends c) up e = idle_ended w w.commit c e
idle_run w (dies c) up e = refl
idle_run w (crashes which) up e = ap (λ o. record w { crash = o }) (no_cut (cut_left w.file which) e ∙ sym up)
idle_run w (reopens others) up e = refl

idle_behind : (w : World) (c : Cut) (event : Event) → is_opening event ≡ false → step_from (Some c) w event ≡ w
idle_behind w c (calls d call) e = refl
idle_behind w c (asks_commit d) e = refl
idle_behind w c (begins d) e = refl
idle_behind w c (calls_device call ok) e = refl
idle_behind w c (ends d) e = refl
idle_behind w c (dies d) e = refl
idle_behind w c (crashes which) e = refl
idle_behind w c (reopens others) e = absurd cc

pub idle : (w : World) (event : Event) → happens w event ≡ false → step w event ≡ w
idle w event e = go w.crash refl e where
  go : (o : Option Cut) → w.crash ≡ o → cond (is_some o) (is_opening event) (has_effect w event) ≡ false → step_from o w event ≡ w
  go None up e = idle_run w event up e
  go (Some c) at e = idle_behind w c event e
