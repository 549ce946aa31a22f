-- The file of a book goes on with its tables.
use Rattle.std.proofs.Common.{◌≡◌, ◌≢◌, ◌≤◌, ◌+◌, inl, inr, ℕ, List, [], Option, Some, Result, Ok, Err, refl, sym, ap, subst, ◌∙◌}
use Rattle.std.proofs.lemmas.List.{append-nil}
use Rattle.srv_edge.specs.declared.device.Device as device
use Rattle.srv_edge.specs.declared.failed.Refusal.{Refusal}
use Rattle.srv_edge.specs.declared.failed.Refusal.TheVariants.{Malformed, NotGiven, Full, Underway, DiskFault, OutOfMemory}
use Rattle.srv_edge.specs.declared.kind.TheConstants.{REFUSED}
use Rattle.srv_edge.specs.Count.{Rose}
use Rattle.srv_edge.specs.Disk.{LeavesOnly}
use Rattle.srv_edge.specs.Frames.{Message}
use Rattle.request_frames.specs.Refusals.{refusal_message}
use Rattle.request_frames.specs.Requests.{Asked}
use Rattle.table_model.specs.Cut.{Cut}
use Rattle.table_model.specs.Extends.{StartsWith}
use Rattle.table_model.specs.File.{File, doubt, newest_cut, resolution, settled}
use Rattle.type_store.specs.Committed.{GoesOn}
use Rattle.type_store.specs.Commits.{HoldsOne}
use Rattle.type_store.specs.Files.{FailsTo, FileView, HasBounds, IsShown, MayBegin, MayShow, Pending, Stays, cut_of, prepared}
use Rattle.hub.specs.Books.{GoOnIn, IsKept}
use Rattle.client_session.specs.Commits.{Acknowledges, FailsIn}
use Rattle.client_session.specs.Tables.{AnswersByTables, Tables, index_reply}
use Rattle.client_session.proofs.Growing.{answered_grow, goes_on, keeps_bounds}

-- with the tables that a request left
pub kept_on : {D : Type 0} (x y : Tables) (file : Option (FileView D)) (a : Asked) (reply : Message) → IsKept x file → AnswersByTables x a reply y → IsKept y file
kept_on x y file a reply kept answered = λ v is.
    let grow = answered_grow x a reply y answered in
    let before = kept v is in
    record { on = goes_on (newest_cut v.file).tables x y before.on grow; bounds = keeps_bounds v.bounds x y before.bounds grow }

-- behind a commit of them
pub commits_on : {D : Type 0} (x : Tables) (v w : FileView D) → GoOnIn x v → GoesOn (newest_cut w.file).tables x → w.bounds ≡ v.bounds → IsKept x (Some w)
commits_on {D} x v w before on same = λ (u : FileView D) is.
    let at : w ≡ u = cc in
    subst (λ (y : FileView D). GoOnIn x y) at (record { on = on; bounds = subst (λ b. HasBounds b x) (sym same) before.bounds })

-- a refusal has the kind of refusals
pub refusal_kind : (refusal : Refusal) → (refusal_message refusal).kind ≡ REFUSED
refusal_kind (Malformed at what) = refl
refusal_kind (NotGiven space index) = refl
refusal_kind (Full which needed) = refl
refusal_kind (Underway number) = refl
refusal_kind (DiskFault number) = refl
refusal_kind OutOfMemory = refl

-- a refused commit acknowledges nothing
pub refused_stays : (kind acked acked' : ℕ) (result : Result ℕ Refusal) → acked' ≡ acked → ((n : ℕ) → result ≢ Ok n) → Acknowledges acked (index_reply kind result) acked'
refused_stays kind acked acked' (Ok n) same no_ok = absurd (no_ok n refl)
refused_stays kind acked acked' (Err refusal) same no_ok = inr (refusal_kind refusal, same)

-- ---- the newest cut behind a commit

starts_self : (xs : List (List ℕ)) → StartsWith xs xs
starts_self xs = ([], sym (append-nil xs))

goes_on_self : (x : Tables) → GoesOn x x
goes_on_self x = record {
  extends = record { types = starts_self x.types.records; items = starts_self x.items.records; names = starts_self x.names.names };
  version = refl;
}

goes_on_cut : (n : ℕ) (x : Tables) (cut : Cut) → cut ≡ cut_of n x → GoesOn cut.tables x
goes_on_cut n x cut is = subst (λ c. GoesOn c.tables x) (sym is) (goes_on_self x)

newest_of_resolved : (f : File) → newest_cut (resolution f) ≡ newest_cut f
newest_of_resolved (settled x) = refl
newest_of_resolved (doubt x p) = refl

-- one that is written
pub settled_on : (n : ℕ) (x : Tables) (cut : Cut) (new : File) → cut ≡ cut_of n x → new ≡ settled cut → GoesOn (newest_cut new).tables x
settled_on n x cut new is file = subst (λ f. GoesOn (newest_cut f).tables x) (sym file) (goes_on_cut n x cut is)

-- one that failed
pub failed_on : (n : ℕ) (x : Tables) (cut : Cut) (old mid new : File) → cut ≡ cut_of n x → mid ≡ old → GoesOn (newest_cut old).tables x → FailsTo mid cut new → GoesOn (newest_cut new).tables x
failed_on n x cut old mid new is same on (inl stays) = subst (λ f. GoesOn (newest_cut f).tables x) (sym (stays ∙ same)) on
failed_on n x cut old mid new is same on (inr (inl resolved)) =
    subst (λ f. GoesOn (newest_cut f).tables x) (sym (resolved ∙ ap resolution same)) (subst (λ c. GoesOn c.tables x) (sym (newest_of_resolved old)) on)
failed_on n x cut old mid new is same on (inr (inr begun)) = subst (λ f. GoesOn (newest_cut f).tables x) (sym begun) (goes_on_cut n x cut is)

-- ---- a commit in which the device failed

-- A failed write of a commit that was prepared is one of the file as it was before.
pub failed_commit : {D : Type 0} (d : device.Ghosts D) (v mid w : FileView D) (tables : Tables) (p : Pending) → p.cut ≡ cut_of (v.last + 1) tables → mid ≡ prepared p v → MayBegin v.shape v.last tables
    → LeavesOnly d.moment d.left_since mid.device w.device (HoldsOne mid.bounds (MayShow mid.file p.cut)) → IsShown d.may_leave w → FailsTo mid.file p.cut w.file → Stays mid w → d.fault_count mid.device ≤ d.fault_count w.device
    → Rose (d.fault_count mid.device) (d.fault_count w.device) → FailsIn d v w (cut_of (v.last + 1) tables)
failed_commit {D} d v mid w tables p is same begins moment shown fails stays falls rose = subst (λ cut. FailsIn d v w cut) is (go mid same moment fails stays falls rose)
  where
    go : (m : FileView D) → m ≡ prepared p v → LeavesOnly d.moment d.left_since m.device w.device (HoldsOne m.bounds (MayShow m.file p.cut)) → FailsTo m.file p.cut w.file → Stays m w
        → d.fault_count m.device ≤ d.fault_count w.device → Rose (d.fault_count m.device) (d.fault_count w.device) → FailsIn d v w p.cut
    go m e moment fails stays falls rose = record {
      writes = record {
        begins = subst (λ (cut : Cut). MayBegin v.shape v.last cut.tables) (sym is) begins;
        any_moment = subst (λ (x : FileView D). LeavesOnly d.moment d.left_since x.device w.device (HoldsOne x.bounds (MayShow x.file p.cut))) e moment;
        shown = shown;
        last = stays.last ∙ ap (λ (x : FileView D). x.last) e;
        opened = stays.opened ∙ ap (λ (x : FileView D). x.opened) e;
        shape = stays.shape ∙ ap (λ (x : FileView D). x.shape) e;
        bounds = stays.bounds ∙ ap (λ (x : FileView D). x.bounds) e;
        never_falls = subst (λ (x : FileView D). d.fault_count x.device ≤ d.fault_count w.device) e falls;
      };
      file = subst (λ (x : FileView D). FailsTo x.file p.cut w.file) e fails;
      rose = subst (λ (x : FileView D). Rose (d.fault_count x.device) (d.fault_count w.device)) e rose;
    }
