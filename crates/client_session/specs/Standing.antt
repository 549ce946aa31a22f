-- Where a desk stands in the course of its session, and what a crash leaves of its file.
use Rattle.std.specs.Prelude.{◌≡◌, ◌⊎◌, ℕ, List, Contains, Some}
use Rattle.srv_edge.specs.declared.device.Device as device
use Rattle.srv_edge.specs.Disk.{LeavesOnly}
use Rattle.srv_edge.specs.Frames.{Message}
use Rattle.request_frames.specs.Requests.{Asked, commit}
use Rattle.table_model.specs.Bounds.{Bounds}
use Rattle.table_model.specs.Cut.{Cut}
use Rattle.table_model.specs.File.{MayLeave}
use Rattle.type_store.specs.Commits.{HoldsOne}
use Rattle.type_store.specs.Files.{FileView, IsShown}
use Rattle.type_store.specs.Shape.{Shape}
use Rattle.hub.specs.Books.{BookView}
use Rattle.client_session.specs.Course.{Answers, Course, next_cut}

-- a cut that was allowed before a request, or that of its own commit
abbrev pub MayLeaveIn : Course → Asked → Cut → Type 0
MayLeaveIn c a cut = Contains c.allowed cut ⊎ ((a ≡ commit) × (cut ≡ next_cut c))

module _ {D : Type 0} (d : device.Ghosts D) (start : D) where
  -- What a crash may leave of a file now is one of the allowed cuts, which are among all. What a crash at any moment since a
  -- run began might have left is an image that the device had at the start, or holds one of all cuts.
  pub record Keeps (v : FileView D) (allowed begun : List Cut) : Type 0 where
    pub now : (cut : Cut) → MayLeave v.file cut → Contains allowed cut
    pub among : (cut : Cut) → Contains allowed cut → Contains begun cut
    pub shown : IsShown d.may_leave v
    pub any_moment : LeavesOnly d.moment d.left_since start v.device (λ image. d.may_leave start image ⊎ HoldsOne v.bounds (Contains begun) image)

  -- A desk stands where a course says, in a run that began with this device: its tables and its last number are those of the
  -- course, and so are the cuts that its file keeps.
  pub record StandsAt (bounds : Bounds) (shape : Shape) (s : BookView D) (c : Course) : Type 0 where
    pub view : FileView D
    pub there : s.file ≡ Some view
    pub bounds_are : view.bounds ≡ bounds
    pub shape_is : view.shape ≡ shape
    pub number : c.number ≡ view.last
    pub tables : c.tables ≡ s.tables
    pub keeps : Keeps view c.allowed c.begun

  -- One answer of a desk that stands at a course: what a crash within it leaves, and where the desk stands then.
  pub record IsSafe (bounds : Bounds) (shape : Shape) (old : BookView D) (c : Course) (a : Asked) (reply : Message) (new : BookView D) : Type 0 where
    pub before : FileView D
    pub after : FileView D
    pub was : old.file ≡ Some before
    pub is : new.file ≡ Some after
    -- every image since its start holds a cut that was allowed before it, or that of its own commit
    pub any_moment : LeavesOnly d.moment d.left_since before.device after.device (HoldsOne bounds (MayLeaveIn c a))
    pub course : Course
    pub answered : Answers bounds.blocks shape c a reply course
    pub stands : StandsAt bounds shape new course
    -- every image behind it holds a cut that is allowed with it
    pub now : (image : List ℕ) → d.may_leave after.device image → HoldsOne bounds (Contains course.allowed) image
