-- How the code of `replay` goes from word to word. No public clause speaks of it.
use Rattle.std.specs.Prelude.{◌≤◌, ◌+◌, ◌-◌, ◌/◌, ◌==◌, ◌&&◌, ◌^◌, ℕ, not, nat_lt, Bool, true, false, List, [], ◌∷◌, length, Option, Some, None, is_none, option_and_then, if◌then◌else◌}
use Rattle.std.specs.List.{slice_get}
use Rattle.std.specs.Option.{option_map}
use Rattle.record_table.specs.Table.{index_at, place_of}
use Rattle.call_journal.specs.declared.deed.TableKind.{TableKind}
use Rattle.call_journal.specs.declared.deed.TableKind.TheVariants.{Types, Items, Names}
use Rattle.call_journal.specs.declared.deed.Limit.{Limit}
use Rattle.call_journal.specs.declared.deed.Limit.TheVariants as limit
use Rattle.call_journal.specs.declared.deed.Deed.{Deed}
use Rattle.call_journal.specs.declared.deed.Deed.TheVariants.{Added, Asked, Counted, NotGiven, Full, Began, Ended, Underway}
use Rattle.call_journal.specs.Words.{deed_of}
use Rattle.core_model.specs.declared.commit.OpenCommit.{OpenCommit}
use Rattle.core_model.specs.declared.state.ReplayState.{ReplayState}
use Rattle.core_model.specs.Replay.{Lists}

-- the lists have so many types, items and names
pub record HasStart (lists : Lists) (start : ℕ × ℕ × ℕ) : Type 0 where
  pub types : start.0 ≤ length lists.types
  pub items : start.1 ≤ length lists.items
  pub names : start.2 ≤ length lists.names

-- The state before the first word: so many types, items and names are there, and no commit has begun.
abbrev pub first_state : ℕ × ℕ × ℕ → ReplayState
first_state start = record { types = start.0; items = start.1; names = start.2; last = None; under_way = None }

-- whether a search found this very place
abbrev pub is_place : ℕ → Option ℕ → Bool
is_place place None = false
is_place place (Some found) = found == place

-- whether something stands at a place of a list, and equals nothing before it
abbrev pub is_first : List (List ℕ) → ℕ → Bool
is_first list place = is_place place (option_and_then (place_of list) (slice_get list place))

-- Whether an answered add may give a place, where so many of the list are there: one of those, or the next, of something
-- that equals nothing before it.
abbrev pub place_fits : List (List ℕ) → ℕ → Option ℕ → Bool
place_fits list count None = false
place_fits list count (Some place) = not (nat_lt count place) && is_first list place

-- how many are there behind it: one more, if it was the next
abbrev pub count_with : ℕ → Option ℕ → ℕ
count_with count None = count
count_with count (Some place) = if place == count then count + 1 else count

-- the place of an index
abbrev pub place_of_index : ℕ → Option ℕ
place_of_index index = if nat_lt index 4096 then None else Some (index - 4096)

-- The place of the name that begins at an offset, if the first of all begins at `start`. An empty name does not count:
-- the empty name is at offset 0.
abbrev pub place_of_offset : ℕ → List (List ℕ) → ℕ → Option ℕ
place_of_offset start [] offset = None
place_of_offset start (x ∷ names) offset =
    if start == offset then (if length x == 0 then None else Some 0) else option_map (λ place. place + 1) (place_of_offset (start + length x + 1) names offset)

-- the state behind an answered add, of the table and with the index or offset that it gave, where it fits
abbrev pub state_after_add : Lists → ReplayState → TableKind → ℕ → Option ReplayState
state_after_add lists p Types at =
    let place = place_of_index at in if place_fits lists.types p.types place then Some (record p { types = count_with p.types place }) else None
state_after_add lists p Items at =
    let place = place_of_index at in if place_fits lists.items p.items place then Some (record p { items = count_with p.items place }) else None
state_after_add lists p Names at =
    if at == 0 then Some p
    else let place = place_of_offset 1 lists.names at in if place_fits lists.names p.names place then Some (record p { names = count_with p.names place }) else None

-- whether an index names no record yet
abbrev pub names_nothing : ReplayState → TableKind → ℕ → Bool
names_nothing p Types index = not (nat_lt index (index_at p.types))
names_nothing p Items index = not (nat_lt index (index_at p.items))
names_nothing p Names index = false

abbrev pub holds_records : TableKind → Bool
holds_records Types = true
holds_records Items = true
holds_records Names = false

-- whether a table has such a limit
abbrev pub is_limit_of : TableKind → Limit → Bool
is_limit_of table limit.Records = holds_records table
is_limit_of table limit.Bytes = holds_records table
is_limit_of table limit.Names = not (holds_records table)

-- whether a number may begin: one more than the last, or at first any but 0
abbrev pub is_next : Option ℕ → ℕ → Bool
is_next None number = not (number == 0)
is_next (Some last) number = number == last + 1

-- whether this commit of this caller is under way
abbrev pub is_open : Option OpenCommit → ℕ → ℕ → Bool
is_open None caller number = false
is_open (Some commit) caller number = (commit.caller == caller) && (commit.number == number)

-- whether a commit of this number is under way
abbrev pub is_open_number : Option OpenCommit → ℕ → Bool
is_open_number None number = false
is_open_number (Some commit) number = commit.number == number

-- the state behind the beginning of a caller's commit, and behind its end, where they fit
abbrev pub state_after_began : ReplayState → ℕ → ℕ → Option ReplayState
state_after_began p caller number =
    if is_none p.under_way && is_next p.last number
    then Some (record p { last = Some number; under_way = Some (record { caller = caller; number = number }) }) else None

abbrev pub state_after_ended : ReplayState → ℕ → ℕ → Option ReplayState
state_after_ended p caller number = if is_open p.under_way caller number then Some (record p { under_way = None }) else None

-- the state behind a deed of a caller, where it fits
abbrev pub state_after_deed : Lists → ReplayState → ℕ → Option Deed → Option ReplayState
state_after_deed lists p caller None = None
state_after_deed lists p caller (Some (Added table at)) = state_after_add lists p table at
state_after_deed lists p caller (Some (Asked table at)) = Some p
state_after_deed lists p caller (Some Counted) = Some p
state_after_deed lists p caller (Some (NotGiven index space table)) = if names_nothing p space index && holds_records table then Some p else None
state_after_deed lists p caller (Some (Full size limit table)) = if is_limit_of table limit then Some p else None
state_after_deed lists p caller (Some (Began number)) = state_after_began p caller number
state_after_deed lists p caller (Some (Ended number acknowledged)) = state_after_ended p caller number
state_after_deed lists p caller (Some (Underway number)) = if is_open_number p.under_way number then Some p else None

-- the state behind one word more, where it fits
abbrev pub next_state : Lists → ReplayState → ℕ → Option ReplayState
next_state lists p word = state_after_deed lists p (word / 2 ^ 56) (deed_of word)

-- the state behind these words, where each fits
abbrev pub state_after : Lists → ReplayState → List ℕ → Option ReplayState
state_after lists p [] = Some p
state_after lists p (word ∷ words) = option_and_then (λ q. state_after lists q words) (next_state lists p word)

-- whether the lists that are there are the final ones
abbrev pub is_end : Lists → ReplayState → Bool
is_end lists p = (p.types == length lists.types) && (p.items == length lists.items) && (p.names == length lists.names)
