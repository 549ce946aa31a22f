-- Which events change the world.
use Rattle.std.specs.Prelude.{◌-◌, ◌^◌, ◌==◌, ◌&&◌, ℕ, nat_lt, Bool, true, false, is_none, is_some, Option, Some, None, if◌then◌else◌}
use Rattle.table_model.specs.Calls.{is_call}
use Rattle.core_model.specs.Events.{Event, asks_commit, begins, calls, calls_device, crashes, dies, ends, reopens}
use Rattle.core_model.specs.Files.{Commit, DeviceCall, Phase, done, failed, cut_left}
use Rattle.core_model.specs.Law.{has_call}
use Rattle.core_model.specs.Passes.{is_pass}
use Rattle.core_model.specs.World.{World, number_now}

-- whether the commit under way has this call of the device
abbrev pub has_call_now : Option Commit → DeviceCall → Bool
has_call_now None call = false
has_call_now (Some k) call = has_call k.phase call

-- whether a commit is done or has failed
abbrev pub is_over : Phase → Bool
is_over done = true
is_over failed = true
is_over _ = false

-- whether the commit under way is this pass's, and is over
abbrev pub is_over_for : Option Commit → ℕ → Bool
is_over_for None c = false
is_over_for (Some k) c = (k.caller == c) && is_over k.phase

-- whether an event may change something, while no crash has come
abbrev pub has_effect : World → Event → Bool
has_effect w (calls c call) = is_pass c && is_call call
has_effect w (asks_commit c) = is_pass c
has_effect w (begins c) = is_pass c && is_none w.commit && nat_lt (number_now w) (2 ^ 32 - 1)
has_effect w (calls_device call ok) = has_call_now w.commit call
has_effect w (ends c) = is_over_for w.commit c
has_effect w (dies c) = false
has_effect w (crashes which) = is_some (cut_left w.file which)
has_effect w (reopens others) = false

abbrev pub is_opening : Event → Bool
is_opening (reopens others) = true
is_opening _ = false

-- Whether an event may change something: behind a crash only an opening does.
abbrev pub happens : World → Event → Bool
happens w event = if is_some w.crash then is_opening event else has_effect w event
