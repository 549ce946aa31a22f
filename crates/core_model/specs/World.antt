-- The world: callers, one history, one commit at a time, and the file as crashes may leave it. Each event is
-- a step from one state to the next; an event whose condition does not hold changes nothing.
use Rattle.std.specs.Prelude.{◌+◌, ◌-◌, ◌^◌, ◌==◌, ◌&&◌, ℕ, nat_lt, Bool, true, false, is_none, List, [], ◌∷◌, ◌++◌, Option, Some, None, if◌then◌else◌}
use Rattle.turnstile.specs.declared.history.Entry.{Entry}
use Rattle.turnstile.specs.declared.history.Basis.{Basis}
use Rattle.call_journal.specs.declared.deed.Deed.TheVariants.{Began, Ended, Underway}
use Rattle.table_model.specs.declared.call.Call.{Call}
use Rattle.table_model.specs.Tables.{Tables}
use Rattle.table_model.specs.Calls.{answer, is_call}
use Rattle.core_model.specs.Cuts.{cut_at, opened_cut}
use Rattle.table_model.specs.Cut.{Cut}
use Rattle.core_model.specs.Entries.{entry_of, entry_of_call}
use Rattle.core_model.specs.Events.{Event, asks_commit, begins, calls, calls_device, crashes, dies, ends, reopens}
use Rattle.core_model.specs.Files.{Commit, DeviceCall, File, Phase, Progress, done, failed, first_phase, cut_left, progress, settled}
use Rattle.core_model.specs.History.{after, most_blocks, most_bytes, most_calls, most_name_bytes, most_records, names_version, standing}
use Rattle.core_model.specs.Passes.{Knowledge, fresh, is_pass, with_view}

-- How the world stands. What a crash left stays until the file is opened again.
pub record World : Type 0 where
  pub basis : Basis
  pub history : List Entry
  pub views : ℕ → Knowledge
  pub commit : Option Commit
  pub file : File
  pub crash : Option Cut

-- a file just opened, on which a basis stands
abbrev pub opened_world : Basis → World
opened_world b = record { basis = b; history = []; views = fresh; commit = None; file = settled (opened_cut b); crash = None }

-- A caller has seen the history that now stands.
abbrev pub with_look : World → ℕ → World
with_look w c = record w { views = with_view w.views c (record { seen = w.history; mine = (w.views c).mine }) }

-- An entry of a caller stands last in the history. The caller has seen it, and it is one of its calls.
abbrev pub with_entry : World → ℕ → Entry → World
with_entry w c e = record w {
  history = w.history ++ e ∷ [];
  views = with_view w.views c (record { seen = w.history ++ e ∷ []; mine = (w.views c).mine ++ e ∷ [] });
}

abbrev pub with_entry_or_look : World → ℕ → Option Entry → World
with_entry_or_look w c None = with_look w c
with_entry_or_look w c (Some e) = with_entry w c e

-- the tables as they stand
abbrev pub tables_now : World → Tables
tables_now w = after w.basis w.history

-- a call, answered by the tables as they stand
abbrev pub after_call : World → ℕ → Call → World
after_call w c call = with_entry_or_look w c (entry_of_call c call (answer (tables_now w) call))

-- A commit that is asked for and does not begin. It is refused while one is under way, and has an entry. While none is, it
-- was refused for a limit or wanted memory: it has no entry, and the pass has seen the history.
abbrev pub after_refusal : World → ℕ → Option Commit → World
after_refusal w c None = with_look w c
after_refusal w c (Some commit) = with_entry w c (entry_of c (Underway commit.cut.number) [])

-- the last number that a commit took
abbrev pub number_now : World → ℕ
number_now w = (standing w.basis w.history).number

-- a commit of the tables as they stand, under the next number
abbrev pub after_beginning : World → ℕ → World
after_beginning w c = record (with_entry w c (entry_of c (Began (number_now w + 1)) [])) {
  commit = Some (record { caller = c; cut = cut_at w.basis w.history (number_now w + 1); phase = first_phase w.file });
}

-- What a device call of the commit makes of the world. A call that its phase does not have changes nothing.
abbrev pub with_progress : World → Commit → Option Progress → World
with_progress w commit None = w
with_progress w commit (Some p) = record w { file = p.file; commit = Some (record commit { phase = p.phase }) }

abbrev pub after_device_call : World → Option Commit → DeviceCall → Bool → World
after_device_call w None call ok = w
after_device_call w (Some commit) call ok = with_progress w commit (progress commit.cut w.file commit.phase call ok)

-- the end of a commit that is done or has failed
abbrev pub after_end_in : World → Commit → Phase → World
after_end_in w commit done = record (with_entry w commit.caller (entry_of commit.caller (Ended commit.cut.number true) [])) { commit = None }
after_end_in w commit failed = record (with_entry w commit.caller (entry_of commit.caller (Ended commit.cut.number false) [])) { commit = None }
after_end_in w commit other = w

abbrev pub after_end : World → ℕ → Option Commit → World
after_end w c None = w
after_end w c (Some commit) = if commit.caller == c then after_end_in w commit commit.phase else w

-- A basis on a cut, with the same limits. The file that is opened tells the numbers behind these.
abbrev pub basis_of : Basis → Cut → List ℕ → Basis
basis_of b c others = record {
  numbers = c.number ∷ most_records b ∷ most_bytes b ∷ most_name_bytes b ∷ most_calls b ∷ most_blocks b ∷ names_version b ∷ others;
  types = c.tables.types.records;
  items = c.tables.items.records;
  names = c.tables.names.names;
}

-- the step of an event, where no crash has come
abbrev pub run : World → Event → World
run w (calls c call) = if is_pass c && is_call call then after_call w c call else w
run w (asks_commit c) = if is_pass c then after_refusal w c w.commit else w
run w (begins c) = if is_pass c && is_none w.commit && nat_lt (number_now w) (2 ^ 32 - 1) then after_beginning w c else w
run w (calls_device call ok) = after_device_call w w.commit call ok
run w (ends c) = after_end w c w.commit
run w (dies c) = w
run w (crashes which) = record w { crash = cut_left w.file which }
run w (reopens others) = w

-- After a crash nothing happens but that the file is opened again.
abbrev pub step_from : Option Cut → World → Event → World
step_from None w event = run w event
step_from (Some c) w (calls d call) = w
step_from (Some c) w (asks_commit d) = w
step_from (Some c) w (begins d) = w
step_from (Some c) w (calls_device call ok) = w
step_from (Some c) w (ends d) = w
step_from (Some c) w (dies d) = w
step_from (Some c) w (crashes which) = w
step_from (Some c) w (reopens others) = opened_world (basis_of w.basis c others)

abbrev pub step : World → Event → World
step w event = step_from w.crash w event

abbrev pub steps : World → List Event → World
steps w [] = w
steps w (event ∷ events) = steps (step w event) events

-- the world after these events, from a file just opened
abbrev pub world_after : Basis → List Event → World
world_after b events = steps (opened_world b) events
