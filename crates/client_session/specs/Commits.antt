-- What a desk over a book answers: the tables answer, or they are committed to their file.
use Rattle.std.specs.Prelude.{◌≡◌, ◌≤◌, ◌<◌, ◌⊎◌, ◌+◌, ◌-◌, ◌^◌, ℕ, List, [], Option, Some, None}
use Rattle.srv_edge.specs.declared.device.Device as device
use Rattle.srv_edge.specs.declared.kind.TheConstants.{REFUSED}
use Rattle.srv_edge.specs.declared.failed.Refusal.TheVariants.{DiskFault, Full, OutOfMemory}
use Rattle.srv_edge.specs.Count.{Rose}
use Rattle.srv_edge.specs.Disk.{LeavesOnly}
use Rattle.srv_edge.specs.Frames.{Message}
use Rattle.request_frames.specs.Refusals.{refusal_message}
use Rattle.request_frames.specs.Requests.{Asked, commit}
use Rattle.table_model.specs.Cut.{Cut}
use Rattle.table_model.specs.File.{settled}
use Rattle.type_store.specs.Commits.{HoldsOne}
use Rattle.type_store.specs.Files.{FailsTo, FileView, IsFull, IsShown, IsWrittenOver, MayBegin, MayShow, cut_of}
use Rattle.hub.specs.Books.{BookView}
use Rattle.client_session.specs.Course.{committed}
use Rattle.client_session.specs.Tables.{AnswersByTables, Tables}

-- how often the device of a file has failed, where there is one
abbrev pub faults_of : {D : Type 0} → (D → ℕ) → Option (FileView D) → ℕ
faults_of count (Some v) = count v.device
faults_of count None = 0

-- the references that the device of a file holds
abbrev pub loans_of : {D : Type 0} → (D → List ℕ) → Option (FileView D) → List ℕ
loans_of loans (Some v) = loans v.device
loans_of loans None = []

-- the number of the last acknowledged commit: that of a reply which acknowledges one, or as it was behind a refusal
abbrev pub Acknowledges : ℕ → Message → ℕ → Type 0
Acknowledges old reply new = (reply ≡ committed new) ⊎ ((reply.kind ≡ REFUSED) × (new ≡ old))

module _ {D : Type 0} (d : device.Ghosts D) where
  -- A commit of this cut was written to a file, as far as it came: a crash at any moment leaves a commit that it might have
  -- left before, or this one. Its number is used up, and all else is as it was.
  pub record Writes (v w : FileView D) (cut : Cut) : Type 0 where
    pub begins : MayBegin v.shape v.last cut.tables
    pub any_moment : LeavesOnly d.moment d.left_since v.device w.device (HoldsOne v.bounds (MayShow v.file cut))
    pub shown : IsShown d.may_leave w
    pub last : w.last ≡ v.last + 1
    pub opened : w.opened ≡ v.opened
    pub shape : w.shape ≡ v.shape
    pub bounds : w.bounds ≡ v.bounds
    pub never_falls : d.fault_count v.device ≤ d.fault_count w.device

  -- It came whole: it is what a crash leaves, written over the opened file.
  pub record WritesAll (v w : FileView D) (cut : Cut) : Type 0 where
    pub writes : Writes v w cut
    pub file : w.file ≡ settled cut
    pub written : (image : List ℕ) → d.may_leave w.device image → IsWrittenOver v.bounds v.opened image cut

  -- The device failed in it.
  pub record FailsIn (v w : FileView D) (cut : Cut) : Type 0 where
    pub writes : Writes v w cut
    pub file : FailsTo v.file cut w.file
    pub rose : Rose (d.fault_count v.device) (d.fault_count w.device)

  -- What a commit of these tables makes of a file, by its reply: it is written; or the device fails in it; or it is refused as
  -- full, or wants memory, and the file stays.
  abbrev pub Commits : FileView D → Tables → Message → FileView D → Type 0
  Commits v tables reply w =
      ((reply ≡ committed (v.last + 1)) × WritesAll v w (cut_of (v.last + 1) tables))
      ⊎ (((reply ≡ refusal_message (DiskFault (v.last + 1))) × FailsIn v w (cut_of (v.last + 1) tables))
      ⊎ (((which needed : ℕ) × IsFull v.bounds.blocks v.shape v.last tables which needed × (reply ≡ refusal_message (Full which needed)) × (w ≡ v))
      ⊎ ((v.last < 2 ^ 32 - 1) × (reply ≡ refusal_message OutOfMemory) × (w ≡ v))))

  -- the same of the file of a book
  pub record CommitsTo (old : Option (FileView D)) (tables : Tables) (reply : Message) (new : Option (FileView D)) : Type 0 where
    pub before : FileView D
    pub after : FileView D
    pub was : old ≡ Some before
    pub is : new ≡ Some after
    pub commits : Commits before tables reply after

  -- a commit of the desk: the tables stay
  pub record SoloCommits (old : BookView D) (reply : Message) (new : BookView D) : Type 0 where
    pub tables : new.tables ≡ old.tables
    pub file : CommitsTo old.file old.tables reply new.file
    pub acked : Acknowledges old.acked reply new.acked

  -- any other request: all but the tables stays
  pub record SoloCalls (old : BookView D) (a : Asked) (reply : Message) (new : BookView D) : Type 0 where
    pub tables : AnswersByTables old.tables a reply new.tables
    pub file : new.file ≡ old.file
    pub acked : new.acked ≡ old.acked

  -- What a desk over a book answers to a request.
  abbrev pub SoloAnswers : BookView D → Asked → Message → BookView D → Type 0
  SoloAnswers old a reply new = SoloCalls old a reply new ⊎ ((a ≡ commit) × SoloCommits old reply new)
