-- What the command `session` does.
use Rattle.std.specs.Prelude.{◌≡◌, ◌≤◌, ◌⊎◌, ℕ, IsTrue, true, List, [], Contains, Some, is_some, Result, Ok, Err, nat_le, length, take}
use Rattle.srv_edge.specs.declared.device.Device as device
use Rattle.srv_edge.specs.declared.failed.SessionEnd.{SessionEnd}
use Rattle.srv_edge.specs.declared.failed.SessionEnd.TheVariants.{ReadFault, WriteFault}
use Rattle.srv_edge.specs.declared.sink.Sink as sink
use Rattle.srv_edge.specs.declared.source.Source as source
use Rattle.srv_edge.specs.Count.{HasCause, Rose, RoseBy}
use Rattle.srv_edge.specs.Disk.{LeavesOnly}
use Rattle.srv_edge.specs.Exchange.{CameFrom, WentTo}
use Rattle.srv_edge.specs.Frames.{AreFrames, Frame, Tail}
use Rattle.srv_edge.specs.Reading.{OnlyReads}
use Rattle.msf_image.specs.declared.fault.Damage.{Damage}
use Rattle.request_frames.specs.Serving.{EndsByInput, end_of}
use Rattle.request_frames.specs.Session.{IsInputEnd, IsSession}
use Rattle.request_frames.specs.Talk.{disk_faults}
use Rattle.table_model.specs.Bounds.{standard}
use Rattle.table_model.specs.Cut.{Cut}
use Rattle.type_store.specs.Commits.{Holds, HoldsOne, cut_told, held_in}
use Rattle.table_model.specs.Tables.{Tables}
use Rattle.type_store.specs.Files.{FileView, HasBounds}
use Rattle.type_store.specs.Opened.{HasShape}
use Rattle.type_store.specs.Shape.{Shape}
use Rattle.hub.specs.Books.{BookView}
use Rattle.client_session.specs.Commits.{faults_of, loans_of}
use Rattle.client_session.specs.Course.{Answers, Course, course_from}
use Rattle.client_session.specs.Served.{IsServed}
use Rattle.srv_edge.specs.declared.limit.TheConstants.{SESSION_BYTES}
use Rattle.program_status.specs.declared.status.Status.{Status}
use Rattle.program_status.specs.declared.status.Status.TheVariants as status
use Rattle.program_status.specs.Statuses.{IsUnserved, MayNotServe, status_of}
use Rattle.file_commands.specs.Run.{IsUnread, IsUnsent}

-- the status of a session by what the file holds, and how its input ends
abbrev pub status_by : Result Cut Damage → SessionEnd → Status
status_by (Ok cut) end = status_of end
status_by (Err damage) end = status.Damage damage.kind damage.place

-- A source and a sink were served over a book: these bytes came and these went, and they are a session of each course in which
-- the book stood.
pub record ServesBook {D S K : Type 0} (d : device.Ghosts D) (s : source.Ghosts S) (k : sink.Ghosts K) (old new : BookView D) (from from' : S) (to to' : K) (end : SessionEnd) : Type 0 where
  pub read : List ℕ
  pub sent : List ℕ
  pub served : IsServed d SESSION_BYTES old new read sent end
  pub came : CameFrom s read from from'
  pub went : WentTo k sent to to'
  pub none_left : IsInputEnd end → IsTrue s.tells → s.left from' ≡ []
  pub reads : HasCause (end ≡ ReadFault) (s.faults from) (s.faults from')
  pub writes : HasCause (end ≡ WriteFault) (k.faults to) (k.faults to')
  pub ends : EndsByInput s.tells SESSION_BYTES (s.left from) (Rose (s.faults from) (s.faults from')) (Rose (k.faults to) (k.faults to')) end
  pub never_falls : faults_of d.fault_count old.file ≤ faults_of d.fault_count new.file
  pub loans : loans_of d.loans new.file ≡ loans_of d.loans old.file
  pub file_there : is_some new.file ≡ true

-- the book of a file that was just opened, with its tables
abbrev pub book_of : {D : Type 0} → FileView D → Tables → BookView D
book_of v tables = record { tables = tables; file = Some v; acked = v.last }

-- the same over a file that was just opened, whose device is handed back
pub record ServesOver {D S K : Type 0} (d : device.Ghosts D) (s : source.Ghosts S) (k : sink.Ghosts K) (v : FileView D) (tables : Tables) (file' : D) (from from' : S) (to to' : K) (end : SessionEnd) : Type 0 where
  pub book : BookView D
  pub view : FileView D
  pub there : book.file ≡ Some view
  pub device_is : view.device ≡ file'
  pub serves : ServesBook d s k (book_of v tables) book from from' to to' end

module _ {D S K : Type 0} (d : device.Ghosts D) (s : source.Ghosts S) (k : sink.Ghosts K) (file file' : D) (from from' : S) (to to' : K) (answer : Status) where
  -- No session began: nothing came and nothing went, and the file was read alone. Damage is the file's first.
  pub record StaysIdle : Type 0 where
    pub answered : MayNotServe answer
    pub told : IsTrue d.tells → IsUnserved (cut_told standard (held_in standard (d.seen file))) answer
    pub unread : IsUnread s from from'
    pub unsent : IsUnsent k to to'
    pub only_reads : OnlyReads d file file'

  -- A session over the commit that the file held: these bytes came and these went, and they are a session of its tables, whose
  -- commits go to the file.
  pub record ServesFile : Type 0 where
    pub cut : Cut
    pub bounds : HasBounds standard cut.tables
    pub holds : IsTrue d.tells → Holds standard (d.seen file) cut
    pub shape : Shape
    pub shape_is : IsTrue d.tells → HasShape standard (d.seen file) shape
    pub course : Course
    pub read : List ℕ
    pub sent : List ℕ
    pub end : SessionEnd
    pub session : IsSession (Answers standard.blocks shape) 1 SESSION_BYTES (course_from cut) course read sent end
    pub answered : answer ≡ status_of end
    pub came : CameFrom s read from from'
    pub went : WentTo k sent to to'
    -- where the input ended, nothing is left in a source that tells it
    pub none_left : IsInputEnd end → IsTrue s.tells → s.left from' ≡ []
    pub reads : HasCause (end ≡ ReadFault) (s.faults from) (s.faults from')
    pub writes : HasCause (end ≡ WriteFault) (k.faults to) (k.faults to')
    pub ends : EndsByInput s.tells SESSION_BYTES (s.left from) (Rose (s.faults from) (s.faults from')) (Rose (k.faults to) (k.faults to')) end
    -- no more replies are faults of the device than it had
    pub few_faults : RoseBy (disk_faults session.replies) (d.fault_count file) (d.fault_count file')
    -- A crash at any moment leaves what it might have left at the start, or a file that holds one of the cuts of the session.
    pub any_moment : LeavesOnly d.moment d.left_since file file' (λ image. d.may_leave file image ⊎ HoldsOne standard (Contains course.begun) image)
    -- What a crash leaves behind it holds a cut that all its requests and replies allow: the last acknowledged, or one that began later.
    pub now : (image : List ℕ) → d.may_leave file' image → HoldsOne standard (Contains course.allowed) image

  -- a run of the command
  abbrev pub RunsSession : Type 0
  RunsSession = StaysIdle ⊎ ServesFile

  -- Where nothing failed, the file and the input alone say the status, but for want of memory.
  abbrev pub CompletesSession : Type 0
  CompletesSession =
      IsTrue s.tells → IsTrue d.tells → ¬ Rose (s.faults from) (s.faults from') → ¬ Rose (k.faults to) (k.faults to') → ¬ Rose (d.fault_count file) (d.fault_count file')
      → (frames : List Frame) (tail : Tail) → AreFrames 1 (take SESSION_BYTES (s.left from)) frames tail
      → (answer ≡ status.OutOfMemory) ⊎ (answer ≡ status_by (cut_told standard (held_in standard (d.seen file))) (end_of (nat_le SESSION_BYTES (length (s.left from))) tail))
