-- A session over a file that was just opened.
use Rattle.std.specs.Prelude.{IfSome}
use Rattle.std.proofs.Common.{◌≡◌, ◌⊎◌, ◌∙◌, ℕ, IsTrue, List, Contains, Some, Err, refl, sym, ap, subst, inl, inr, arith}
use Rattle.srv_edge.specs.declared.device.Device as device
use Rattle.srv_edge.specs.declared.failed.SessionEnd.{SessionEnd}
use Rattle.srv_edge.specs.declared.sink.Sink as sink
use Rattle.srv_edge.specs.declared.source.Source as source
use Rattle.srv_edge.specs.declared.limit.TheConstants.{SESSION_BYTES}
use Rattle.srv_edge.specs.Count.{Rose, RoseBy}
use Rattle.srv_edge.specs.Disk.{LeavesOnly}
use Rattle.srv_edge.specs.Reading.{OnlyReads}
use Rattle.msf_image.specs.declared.fault.OpenFault.{OpenFault}
use Rattle.msf_image.specs.declared.fault.OpenFault.TheVariants as fault
use Rattle.msf_image.specs.Faults.{damage_in}
use Rattle.request_frames.specs.Talk.{disk_faults}
use Rattle.table_model.specs.Bounds.{standard}
use Rattle.table_model.specs.Cut.{Cut}
use Rattle.table_model.specs.File.{newest_cut}
use Rattle.table_model.specs.Tables.{Tables}
use Rattle.type_store.specs.Commits.{Holds, HoldsOne, cut_told, held_in}
use Rattle.type_store.specs.Files.{FileView, IsShown, cut_of}
use Rattle.type_store.specs.Opened.{HasShape, IsOpened}
use Rattle.client_session.specs.Commits.{faults_of}
use Rattle.client_session.specs.Course.{course_from}
use Rattle.client_session.specs.Served.{IsServedFrom}
use Rattle.client_session.specs.Standing.{Keeps}
use Rattle.client_session.proofs.Course.{starts}
use Rattle.program_status.specs.declared.status.Status.{Status}
use Rattle.program_status.specs.declared.status.Status.TheVariants as status
use Rattle.program_status.specs.Statuses.{status_of, status_of_fault}
use Rattle.program_status.proofs.Bounds.{within_bounds}
use Rattle.file_commands.specs.Session.{ServesFile, ServesOver, book_of, status_by}

module _ {D : Type 0} (d : device.Ghosts D) where
  -- what a crash leaves of a file that keeps its cuts holds an allowed one
  leaves_allowed : (start : D) (v : FileView D) (allowed begun : List Cut) → Keeps d start v allowed begun → v.bounds ≡ standard
      → (image : List ℕ) → d.may_leave v.device image → HoldsOne standard (Contains allowed) image
  leaves_allowed start v allowed begun keeps is image may =
      let shown = keeps.shown image may in
      (shown.0, keeps.now shown.0 shown.1, subst (λ bounds. Holds bounds image shown.0) is shown.2)

  -- what a crash left at any moment is one that was there, or holds a cut of the session
  left_ever : (start : D) (v : FileView D) (allowed begun : List Cut) → Keeps d start v allowed begun → v.bounds ≡ standard
      → LeavesOnly d.moment d.left_since start v.device (λ image. d.may_leave start image ⊎ HoldsOne standard (Contains begun) image)
  left_ever start v allowed begun keeps is =
      subst (λ bounds. LeavesOnly d.moment d.left_since start v.device (λ image. d.may_leave start image ⊎ HoldsOne bounds (Contains begun) image)) is keeps.any_moment

module _ {D S K : Type 0} (d : device.Ghosts D) (s : source.Ghosts S) (k : sink.Ghosts K) (file file' : D) (from from' : S) (to to' : K) (answer : Status) where
  pub serves_file : (v : FileView D) (tables : Tables) (end : SessionEnd) → (IsTrue d.tells → Holds standard (d.seen file) (newest_cut v.file)) → (IsTrue d.tells → HasShape standard (d.seen file) v.shape)
      → IsOpened standard (d.seen file) v tables → IsShown d.may_leave v → OnlyReads d file v.device → answer ≡ status_of end → ServesOver d s k v tables file' from from' to to' end
      → ServesFile d s k file file' from from' to to' answer
  serves_file v tables end told shape opened shown reads is over =
      let cut = cut_of v.last tables in
      let newest : newest_cut v.file ≡ cut = ap newest_cut opened.file in
      let serves = over.serves in
      let stands = starts d file standard (d.seen file) v (book_of v tables) refl opened shown reads.any_moment in
      let x : IsServedFrom d SESSION_BYTES (book_of v tables) over.book serves.read serves.sent end file standard v.shape (course_from cut) = serves.served file standard v.shape (course_from cut) stands in
      let at = x.stands in
      let same : at.view ≡ over.view = some_same at.view over.view (sym at.there ∙ over.there) in
      let device_is : at.view.device ≡ file' = ap (λ (w : FileView D). w.device) same ∙ over.device_is in
      let few : RoseBy (disk_faults x.session.replies) (d.fault_count v.device) (d.fault_count over.view.device) = subst (λ f. RoseBy (disk_faults x.session.replies) (d.fault_count v.device) (faults_of d.fault_count f)) over.there x.few_faults in
      record {
        cut = cut;
        bounds = within_bounds standard tables opened.within;
        holds = λ tells. subst (Holds standard (d.seen file)) newest (told tells);
        shape = v.shape;
        shape_is = shape;
        course = x.course;
        read = serves.read;
        sent = serves.sent;
        end = end;
        session = x.session;
        answered = is;
        came = serves.came;
        went = serves.went;
        none_left = serves.none_left;
        reads = serves.reads;
        writes = serves.writes;
        ends = serves.ends;
        few_faults = subst (λ w. RoseBy (disk_faults x.session.replies) (d.fault_count file) (d.fault_count w)) over.device_is (omega (arith, few, reads.never_falls));
        any_moment = subst (λ w. LeavesOnly d.moment d.left_since file w (λ image. d.may_leave file image ⊎ HoldsOne standard (Contains x.course.begun) image)) device_is (left_ever d file at.view x.course.allowed x.course.begun at.keeps at.bounds_are);
        now = subst (λ w. (image : List ℕ) → d.may_leave w image → HoldsOne standard (Contains x.course.allowed) image) device_is (leaves_allowed d file at.view x.course.allowed x.course.begun at.keeps at.bounds_are);
      }
    where
      some_same : (a b : FileView D) → Some a ≡ Some b → a ≡ b
      some_same a b e = cc

-- the status of a session over a file that does not open
pub fault_completes : {D : Type 0} (d : device.Ghosts D) (file file' : D) (why : OpenFault) (answer : Status) (end : SessionEnd) → answer ≡ status_of_fault why
    → IfSome (damage_in why) (λ damage. held_in standard (d.seen file) ≡ Err damage) → (why ≡ fault.DiskFault → Rose (d.fault_count file) (d.fault_count file')) → ¬ Rose (d.fault_count file) (d.fault_count file')
    → (answer ≡ status.OutOfMemory) ⊎ (answer ≡ status_by (cut_told standard (held_in standard (d.seen file))) end)
fault_completes d file file' (fault.Damage kind place) answer end is told rose none = inr (is ∙ sym (ap (λ r. status_by (cut_told standard r) end) told))
fault_completes d file file' fault.DiskFault answer end is told rose none = absurd (none (rose refl))
fault_completes d file file' fault.OutOfMemory answer end is told rose none = inl is
