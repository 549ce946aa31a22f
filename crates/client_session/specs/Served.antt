-- A whole session of a desk, from any course in which it stands.
use Rattle.std.specs.Prelude.{ℕ, List}
use Rattle.srv_edge.specs.declared.device.Device as device
use Rattle.srv_edge.specs.declared.failed.SessionEnd.{SessionEnd}
use Rattle.srv_edge.specs.Count.{RoseBy}
use Rattle.request_frames.specs.Session.{IsSession}
use Rattle.request_frames.specs.Talk.{disk_faults}
use Rattle.table_model.specs.Bounds.{Bounds}
use Rattle.type_store.specs.Shape.{Shape}
use Rattle.hub.specs.Books.{BookView}
use Rattle.client_session.specs.Commits.{faults_of}
use Rattle.client_session.specs.Course.{Answers, Course}
use Rattle.client_session.specs.Standing.{StandsAt}

module _ {D : Type 0} (d : device.Ghosts D) (limit : ℕ) (old new : BookView D) (read sent : List ℕ) (end : SessionEnd) where
  -- It stands at another course then, and the requests with their replies lead from the one to the other. No more of these
  -- are faults of the device than its count rose by.
  pub record IsServedFrom (start : D) (bounds : Bounds) (shape : Shape) (c : Course) : Type 0 where
    pub course : Course
    pub stands : StandsAt d start bounds shape new course
    pub session : IsSession (Answers bounds.blocks shape) 1 limit c course read sent end
    pub few_faults : RoseBy (disk_faults session.replies) (faults_of d.fault_count old.file) (faults_of d.fault_count new.file)

  -- these bytes were read and these sent, and they are a session of each course in which the desk stood
  abbrev pub IsServed : Type 0
  IsServed = (start : D) (bounds : Bounds) (shape : Shape) (c : Course) → StandsAt d start bounds shape old c → IsServedFrom start bounds shape c
