-- What the command `serve` does.
use Rattle.std.specs.Prelude.{◌≡◌, ◌≤◌, ◌<◌, ◌⊎◌, ◌+◌, ⊤, ℕ, Bool, true, false, IsTrue, List, [], ◌++◌, length, codes, decimal, Option, Some, None}
use Rattle.command_words.specs.declared.plan.Plan.{Plan}
use Rattle.command_words.specs.declared.plan.Plan.TheVariants as plan
use Rattle.srv_edge.specs.declared.device.Device as device
use Rattle.srv_edge.specs.declared.door.Door as door
use Rattle.srv_edge.specs.declared.sink.Sink as sink
use Rattle.srv_edge.specs.Count.{HasCause, Rose, RoseBy}
use Rattle.srv_edge.specs.Reading.{OnlyReads}
use Rattle.turnstile.specs.declared.history.Basis.{Basis}
use Rattle.turnstile.specs.declared.history.Entry.{Entry}
use Rattle.turnstile.specs.Histories.{calls_by}
use Rattle.table_model.specs.Bounds.{bounds_of, standard}
use Rattle.table_model.specs.Cut.{Cut}
use Rattle.table_model.specs.Tables.{Tables}
use Rattle.core_model.specs.Cuts.{IsAllowed, opened_cut}
use Rattle.core_model.specs.History.{IsLegal, after, age_of, most_calls, standing}
use Rattle.core_model.specs.Legal.{faulted_ends}
use Rattle.core_model.specs.Replay.{words_of}
use Rattle.srv_edge.specs.declared.failed.Limits.{Limits}
use Rattle.srv_edge.specs.declared.limit.TheConstants.{MOST_CALLS}
use Rattle.client_session.specs.Commits.{faults_of, loans_of}
use Rattle.type_store.specs.Commits.{Holds, HoldsOne, cut_told, held_in}
use Rattle.type_store.specs.Files.{FileView, HasBounds}
use Rattle.type_store.specs.Opened.{HasShape}
use Rattle.hub.specs.declared.end.Ended.{Ended}
use Rattle.hub.specs.Bases.{basis_of, shape_in}
use Rattle.hub.specs.Kept.{IsFrom}
use Rattle.hub.specs.Stories.{last_acknowledged}
use Rattle.build_server.specs.declared.server.Closed.{Closed}
use Rattle.build_server.specs.declared.server.Closed.TheVariants.{Early, Served}
use Rattle.program_status.specs.declared.status.Status.{Status}
use Rattle.program_status.specs.declared.status.Status.TheVariants as status
use Rattle.program_status.specs.Prints.{Prints}
use Rattle.program_status.specs.Statuses.{IsUnserved, MayNotServe, status_of_file}

-- ---- the summary

-- how many links were accepted, how many calls were filed, how many types, items and names there are, and the last number that
-- was acknowledged
abbrev pub summary : ℕ → ℕ → Tables → ℕ → List ℕ
summary sessions calls tables commit =
    codes "served sessions=" ++ decimal sessions ++ codes " calls=" ++ decimal calls ++ codes " types=" ++ decimal (length tables.types.records) ++ codes " items="
    ++ decimal (length tables.items.records) ++ codes " names=" ++ decimal (length tables.names.names) ++ codes " commit=" ++ decimal commit ++ codes "\n"

-- the summary of what a hub left
abbrev pub summary_of : {D : Type 0} → ℕ → Ended D → List ℕ
summary_of sessions left = summary sessions (length left.journal.words) left.book.tables left.book.acked

-- a fault of the door hides how the summary was printed
abbrev pub status_behind : Bool → Status → Status
status_behind true printed = status.DoorFault
status_behind false printed = printed

-- ---- what a server leaves

-- What is left behind a history on a basis: it is legal, has the calls of the workers and no others, and each commit of it has ended. The journal, the
-- tables and the file are as it says.
pub record LeavesHistory {D : Type 0} (d : device.Ghosts D) (workers : ℕ) (basis : Basis) (history : List Entry) (file : D) (left : Ended D) : Type 0 where
  pub legal : IsLegal basis history
  pub callers : (n : ℕ) → (n ≡ 0) ⊎ (workers < n) → calls_by n history ≡ []
  pub none_under_way : (standing basis history).under_way ≡ None
  pub words : left.journal.words ≡ words_of history
  pub tables : left.book.tables ≡ after basis history
  pub acked : left.book.acked ≡ last_acknowledged (age_of basis) history
  pub from : IsFrom basis left.age left.start.types left.start.items left.start.names
  pub view : FileView D
  pub there : left.book.file ≡ Some view
  -- no more commits failed than the device had faults
  pub few_faults : RoseBy (faulted_ends history) (d.fault_count file) (d.fault_count view.device)
  -- A crash leaves a file that holds the last acknowledged cut, or one that began later.
  pub now : (image : List ℕ) → d.may_leave view.device image → HoldsOne standard (IsAllowed basis history) image
  pub loans : d.loans view.device ≡ d.loans file

-- A basis on the commit that a file holds, with the standard limits.
pub record IsOpenedBasis {D : Type 0} (d : device.Ghosts D) (file : D) (cut : Cut) (basis : Basis) : Type 0 where
  pub holds : IsTrue d.tells → Holds standard (d.seen file) cut
  pub bounds : HasBounds standard cut.tables
  pub opened : opened_cut basis ≡ cut
  pub calls : most_calls basis ≡ MOST_CALLS
  pub shape_is : IsTrue d.tells → HasShape standard (d.seen file) (shape_in basis)

-- So many links were accepted from a door, and all of them went back. They are fewer than were wanted only where no more come or the door failed.
pub record Accepts {O E : Type 0} (o : door.Ghosts O E) (wanted accepted : ℕ) (failed : Bool) (door door' : O) : Type 0 where
  pub at_most : accepted ≤ wanted
  pub handed : o.handed door' ≡ o.handed door + accepted
  pub returned : o.returned door' ≡ o.returned door + accepted
  pub fewer : accepted < wanted → IsTrue (o.shut door') ⊎ IsTrue failed
  pub cause : HasCause (IsTrue failed) (o.faults door) (o.faults door')

-- ---- the command

-- the plan of a server
abbrev pub IsServe : Option Plan → Type 0
IsServe (Some (plan.Serve path listen sessions workers)) = ⊤
IsServe (Some (plan.Session path)) = ⊥
IsServe (Some (plan.Init path block guid signature)) = ⊥
IsServe (Some (plan.Check path)) = ⊥
IsServe (Some (plan.Dump path)) = ⊥
IsServe (Some (plan.Gen units seed)) = ⊥
IsServe None = ⊥

-- a count of the device in what a server hands back
abbrev pub counted_in : {D : Type 0} → (D → ℕ) → Closed D → ℕ
counted_in count (Early file) = count file
counted_in count (Served left) = faults_of count left.book.file

-- the references that the device holds there
abbrev pub loans_in : {D : Type 0} → (D → List ℕ) → Closed D → List ℕ
loans_in loans (Early file) = loans file
loans_in loans (Served left) = loans_of loans left.book.file

module _ {D O E K : Type 0} (d : device.Ghosts D) (o : door.Ghosts O E) (k : sink.Ghosts K) (sessions workers : ℕ) where
  -- Links were served in a history on this basis, and the summary was printed.
  pub record ServesFrom (basis : Basis) (file : D) (door door' : O) (to to' : K) (answer : Status) (left : Ended D) : Type 0 where
    pub history : List Entry
    pub leaves : LeavesHistory d workers basis history file left
    pub accepted : ℕ
    pub failed : Bool
    pub accepts : Accepts o sessions accepted failed door door'
    pub printing : Status
    pub printed : Prints k (summary_of accepted left) status.Ok to to' printing
    pub writes : HasCause (printing ≡ status.WriteFault) (k.faults to) (k.faults to')
    pub answered : answer ≡ status_behind failed printing

  -- The same over a file that was just opened, with its tables; or memory was wanted, and nothing was done.
  abbrev pub ServesOver : FileView D → Tables → O → O → K → K → Status → Closed D → Type 0
  ServesOver v tables door door' to to' answer (Early file') = (answer ≡ status.OutOfMemory) × (file' ≡ v.device) × (door' ≡ door) × (to' ≡ to)
  ServesOver v tables door door' to to' answer (Served left) =
      (limits : Limits) × (bounds_of limits ≡ standard) × (limits.calls ≡ MOST_CALLS) × ServesFrom (basis_of d limits v tables) v.device door door' to to' answer left

  -- No link was accepted and nothing was printed, and the file was read alone.
  pub record StaysShut (file : D) (door door' : O) (to to' : K) (answer : Status) (file' : D) : Type 0 where
    pub answered : MayNotServe answer
    pub told : IsTrue d.tells → IsUnserved (cut_told standard (held_in standard (d.seen file))) answer
    pub disk : HasCause (answer ≡ status.DiskFault) (d.fault_count file) (d.fault_count file')
    pub same_door : door' ≡ door
    pub unsent : to' ≡ to
    pub only_reads : OnlyReads d file file'

  -- Links were served over the commit that the file held, and the summary was printed.
  pub record ServesLinks (file : D) (door door' : O) (to to' : K) (answer : Status) (left : Ended D) : Type 0 where
    pub cut : Cut
    pub basis : Basis
    pub opened : IsOpenedBasis d file cut basis
    pub serves : ServesFrom basis file door door' to to' answer left

  -- a run of the command, by what it hands back
  abbrev pub RunsServer : D → O → O → K → K → Status → Closed D → Type 0
  RunsServer file door door' to to' answer (Early file') = StaysShut file door door' to to' answer file'
  RunsServer file door door' to to' answer (Served left) = ServesLinks file door door' to to' answer left

-- Where neither the device nor the door nor the sink failed, the file alone says the status, but for want of memory.
abbrev pub CompletesServer : {D O E K : Type 0} → device.Ghosts D → door.Ghosts O E → sink.Ghosts K → D → O → O → K → K → Status → Closed D → Type 0
CompletesServer d o k file door door' to to' answer closed =
    IsTrue d.tells → ¬ Rose (d.fault_count file) (counted_in d.fault_count closed) → ¬ Rose (o.faults door) (o.faults door') → ¬ Rose (k.faults to) (k.faults to')
    → (answer ≡ status.OutOfMemory) ⊎ (answer ≡ status_of_file (cut_told standard (held_in standard (d.seen file))))
