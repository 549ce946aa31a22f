-- What the types of a hub's value and of a file that is out keep.
use Rattle.std.specs.Prelude.{◌≡◌, ◌≢◌, ◌≤◌, ◌<◌, ◌+◌, ◌^◌, ℕ, Bool, true, false, List, [], ◌∷◌, ◌++◌, All, Option, None, Some}
use Rattle.srv_edge.specs.Count.{RoseBy}
use Rattle.srv_edge.specs.declared.device.Device.{Ghosts}
use Rattle.call_journal.specs.declared.deed.Deed.TheVariants.{Began, Ended}
use Rattle.call_journal.specs.Words.{deed_of}
use Rattle.turnstile.specs.declared.history.Basis.{Basis}
use Rattle.turnstile.specs.declared.history.Entry.{Entry}
use Rattle.table_model.specs.Cut.{Cut}
use Rattle.table_model.specs.File.{MayLeave, newest_cut}
use Rattle.table_model.specs.Tables.{Tables}
use Rattle.type_store.specs.Commits.{HoldsOne}
use Rattle.type_store.specs.Committed.{GoesOn}
use Rattle.type_store.specs.Files.{FileView, Pending}
use Rattle.core_model.specs.Cuts.{IsAllowed, cut_at}
use Rattle.core_model.specs.Entries.{entry_of}
use Rattle.core_model.specs.declared.commit.OpenCommit.{OpenCommit}
use Rattle.core_model.specs.History.{IsLegal, IsStart, after, age_of, most_calls, standing}
use Rattle.core_model.specs.Legal.{AreCalls, faulted_ends}
use Rattle.core_model.specs.Replay.{counts_of}
use Rattle.hub.specs.Bases.{bounds_in, faults_at_opening, loans_in, shape_in}
use Rattle.hub.specs.Stories.{last_acknowledged, one_if_open, taken}

-- ---- a file

-- A file of a hub: each commit that a crash may leave of it is one of these; the tables go on from the newest; this is the last
-- number that it gave; its device has failed at least so often since the opening; and the rest is as it was then.
pub record IsFileOf {D : Type 0} (g : Ghosts D) (b : Basis) (May : Cut → Type 0) (x : Tables) (given failures : ℕ) (f : FileView D) : Type 0 where
  pub shown : (c : Cut) → MayLeave f.file c → May c
  pub newest : GoesOn (newest_cut f.file).tables x
  pub last : f.last ≡ given
  pub faults : RoseBy failures (faults_at_opening b) (g.fault_count f.device)
  pub loans : g.loans f.device ≡ loans_in b
  pub bounds : f.bounds ≡ bounds_in b
  pub shape : f.shape ≡ shape_in b

-- the image holds a commit that is allowed behind this history
abbrev pub HoldsAllowed : Basis → List Entry → List ℕ → Type 0
HoldsAllowed b h image = HoldsOne (bounds_in b) (IsAllowed b h) image

-- ---- the file that is out for a commit

-- the history ends where a commit begins
pub record IsBegun (kept : List Entry) : Type 0 where
  pub before : List Entry
  pub began : Entry
  pub number : ℕ
  pub whole : kept ≡ before ++ began ∷ []
  pub deed : deed_of began.word ≡ Some (Began number)

-- the cut of that commit
abbrev pub cut_begun : (b : Basis) {kept : List Entry} → IsBegun kept → Cut
cut_begun b begun = cut_at b begun.before begun.number

-- The file for the commit that begins last in this history.
pub record IsOut {D : Type 0} (g : Ghosts D) (b : Basis) (kept : List Entry) (pending : Pending) (f : FileView D) : Type 0 where
  pub begun : IsBegun kept
  pub cut : pending.cut ≡ cut_begun b begun
  pub ready : f.ready ≡ Some pending
  pub file : IsFileOf g b (IsAllowed b kept) (after b begun.before) begun.number (faulted_ends kept) f

-- what a crash may leave of the file of a commit that is done: where it did not fail, its cut and no other
abbrev pub IsLeft : Bool → Basis → List Entry → Cut → Cut → Type 0
IsLeft true b kept own c = IsAllowed b kept c
IsLeft false b kept own c = c ≡ own

abbrev pub one_if : Bool → ℕ
one_if true = 1
one_if false = 0

-- The same once the commit was written, or failed.
pub record IsDone {D : Type 0} (g : Ghosts D) (b : Basis) (kept : List Entry) (number : ℕ) (failed : Bool) (f : FileView D) : Type 0 where
  pub begun : IsBegun kept
  pub number_is : begun.number ≡ number
  pub file : IsFileOf g b (IsLeft failed b kept (cut_begun b begun)) (after b begun.before) begun.number (faulted_ends kept + one_if failed) f

-- the entry ends no commit of this number
abbrev pub IsNoEnd : ℕ → Entry → Type 0
IsNoEnd number e = (acknowledged : Bool) → deed_of e.word ≢ Some (Ended number acknowledged)

-- The history ends where a commit of this caller begins, whose end is not among these calls.
pub record IsOwnOpen (c : ℕ) (kept mine : List Entry) : Type 0 where
  pub before : List Entry
  pub number : ℕ
  pub whole : kept ≡ before ++ entry_of c (Began number) [] ∷ []
  pub small : number < 2 ^ 32
  pub unended : All (IsNoEnd number) mine

-- The commit of this caller that begins last in `kept` is the one under way in the history, which goes on from there with calls.
pub record IsStillOpen (b : Basis) (c : ℕ) (kept h : List Entry) : Type 0 where
  pub rest : List Entry
  pub whole : h ≡ kept ++ rest
  pub calls : AreCalls rest
  pub under_way : (standing b h).under_way ≡ Some (record { caller = c; number = (standing b kept).number })

-- ---- the value

-- The file is at home exactly where no commit is under way. Then a crash leaves of it what is allowed.
abbrev pub IsShelved : {D : Type 0} → Ghosts D → Basis → List Entry → Option (FileView D) → Type 0
IsShelved g b h None = (k : OpenCommit) × ((standing b h).under_way ≡ Some k)
IsShelved g b h (Some f) = ((standing b h).under_way ≡ None) × IsFileOf g b (IsAllowed b h) (after b h) (standing b h).number (faulted_ends h) f

-- The history is legal, and the tables, the numbers and the file are as it says. The end of a commit that is under way has its place
-- and its room.
pub record IsHub {D : Type 0} (g : Ghosts D) (b : Basis) (h : List Entry) (x : Tables) (spare acknowledged newest : ℕ) (file : Option (FileView D)) : Type 0 where
  pub start : IsStart b
  pub few_calls : most_calls b ≤ 2 ^ 26
  pub legal : IsLegal b h
  pub tables : x ≡ after b h
  pub acked : acknowledged ≡ last_acknowledged (age_of b) h
  pub last : newest ≡ (standing b h).number
  pub room : taken b h ≤ most_calls b
  pub reserved : one_if_open (standing b h).under_way ≤ spare
  pub shelved : IsShelved g b h file

-- the number and the counts as opened are those of the basis
pub record IsFrom (b : Basis) (age types items names : ℕ) : Type 0 where
  pub age_is : age ≡ age_of b
  pub counts : (types, items, names) ≡ counts_of b
