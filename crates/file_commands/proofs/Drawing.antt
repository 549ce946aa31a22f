-- A session that was drawn, over a new file.
use Rattle.std.proofs.Common.{◌≡◌, ◌∙◌, ℕ, List, Some, Result, Ok, Err, IfOk, refl, sym, ap, subst, arith}
use Rattle.srv_edge.specs.declared.device.Device as device
use Rattle.srv_edge.specs.declared.failed.SessionEnd.TheVariants.{Bye}
use Rattle.srv_edge.specs.declared.limit.TheConstants.{SESSION_BYTES}
use Rattle.srv_edge.specs.Count.{RoseBy}
use Rattle.srv_edge.specs.Frames.{AreFrames, ReadsNoMore, at_bye}
use Rattle.srv_edge.proofs.Moments.{started}
use Rattle.request_frames.specs.Session.{IsSession}
use Rattle.request_frames.specs.Talk.{disk_faults}
use Rattle.table_model.specs.Bounds.{standard}
use Rattle.table_model.specs.Cut.{Cut}
use Rattle.table_model.specs.File.{newest_cut}
use Rattle.table_model.specs.Tables.{Tables}
use Rattle.msf_image.specs.declared.image.Image.{Image}
use Rattle.type_store.specs.Files.{FileView, IsShown, cut_of}
use Rattle.type_store.specs.Opened.{IsOpened}
use Rattle.type_store.specs.Shape.{Shape, sizes_in}
use Rattle.hub.specs.Books.{BookView}
use Rattle.client_session.specs.Commits.{faults_of}
use Rattle.client_session.specs.Course.{Answers, Course, course_from}
use Rattle.client_session.proofs.Course.{starts}
use Rattle.drawn_session.specs.Line.{line_text}
use Rattle.drawn_session.specs.Requests.{session_bytes}
use Rattle.drawn_session.proofs.Reading.{whole_session}
use Rattle.file_commands.specs.Drawn.{HasReplies, IsDrawn, IsNewBook, new_image}
use Rattle.file_commands.specs.Making.{first_cut}
use Rattle.file_commands.specs.Session.{book_of}

-- a result that says more where it is there
pub if_ok_then : {A E : Type 0} (r : Result A E) (P Q : A → Type 0) → ((a : A) → P a → Q a) → IfOk r P → IfOk r Q
if_ok_then (Ok a) P Q more p = more a p
if_ok_then (Err e) P Q more p = p

-- the line of the same numbers
pub same_line : (units t i n h t' i' n' h' : ℕ) → t ≡ t' → i ≡ i' → n ≡ n' → h ≡ h'
    → line_text units (record { types = t; items = i; names = n; hash = h }) ≡ line_text units (record { types = t'; items = i'; names = n'; hash = h' })
same_line units t i n h t' i' n' h' types items names hash = rw (types, items, names, hash) refl

module _ {D : Type 0} (d : device.Ghosts D) where
  pub new_book : (v : FileView D) (tables : Tables) (book : BookView D) → book ≡ book_of v tables → IsOpened standard (d.seen v.device) v tables → v.image ≡ new_image
      → newest_cut v.file ≡ first_cut → IsShown d.may_leave v → IsNewBook d book
  new_book v tables book is opened image first shown =
      subst (IsNewBook d) (sym is) (record { view = v; there = refl; opened = opened; image = image; first = sym (ap newest_cut opened.file) ∙ first; shown = shown })

  -- the replies to the same bytes
  pub replies_to : (drawn bytes : List ℕ) (hash : ℕ) (old new : BookView D) → bytes ≡ drawn → HasReplies d bytes old new hash → HasReplies d drawn old new hash
  replies_to drawn bytes hash old new is replies = subst (λ b. HasReplies d b old new hash) is replies

  -- what is said of a session, by what it read and over what
  abbrev Talked : Course → List ℕ → List ℕ → Shape → Cut → Type 0
  Talked course sent read shape cut =
      (session : IsSession (Answers standard.blocks shape) 1 SESSION_BYTES (course_from cut) course read sent Bye) × (disk_faults session.replies ≡ 0)

  no_faults : (n before now : ℕ) → RoseBy n before now → now ≡ 0 → n ≡ 0
  no_faults n before now rose none = omega (arith, rose, none)

  pub drawn : (units seed hash : ℕ) (old new : BookView D) (w : FileView D) → ((x : D) (image : List ℕ) → d.left_since x (d.moment x) image → d.may_leave x image)
      → IsNewBook d old → (replies : HasReplies d (session_bytes units seed) old new hash) → new.file ≡ Some w → d.fault_count w.device ≡ 0 → IsDrawn units seed new.tables replies.sent
  drawn units seed hash old new w only_now book replies there none =
      let v = book.view in
      let start = v.device in
      let leaves = started d.moment d.left_since start (d.may_leave start) (d.may_leave start) (only_now start) (λ image may. may) in
      let stands = starts d start standard (d.seen start) v old book.there book.opened book.shown leaves in
      let x = replies.served start standard v.shape (course_from (cut_of v.last old.tables)) stands in
      let few : RoseBy (disk_faults x.session.replies) (faults_of d.fault_count old.file) (d.fault_count w.device) =
      subst (λ f. RoseBy (disk_faults x.session.replies) (faults_of d.fault_count old.file) (faults_of d.fault_count f)) there x.few_faults
      in
      let own : Talked x.course replies.sent replies.read v.shape (cut_of v.last old.tables) = (x.session, no_faults (disk_faults x.session.replies) _ _ few none) in
      let session = x.session in
      let tail_is : session.tail ≡ at_bye = session.ends in
      let read = whole_session units seed replies.read replies.rest session.frames replies.bytes_are (subst (AreFrames 1 replies.read session.frames) tail_is session.stream)
      (subst (ReadsNoMore replies.read session.frames) tail_is session.no_more) in
      let all : Talked x.course replies.sent (session_bytes units seed) v.shape first_cut =
      subst (λ cut. Talked x.course replies.sent (session_bytes units seed) v.shape cut) book.first
      (subst (λ r. Talked x.course replies.sent r v.shape (cut_of v.last old.tables)) read own)
      in
      record {
        shape = v.shape;
        new_shape = record {
          block = ap (λ (s : Shape). s.block) book.opened.shape ∙ ap (λ (i : Image). i.head.block) book.image;
          blocks = ap (λ (s : Shape). s.blocks) book.opened.shape ∙ ap (λ (i : Image). i.head.blocks) book.image;
          sizes = ap (λ (s : Shape). s.sizes) book.opened.shape ∙ ap (λ (i : Image). sizes_in i.directory) book.image;
        };
        course = x.course;
        session = all.0;
        no_disk_fault = all.1;
        tables_are = x.stands.tables;
      }
