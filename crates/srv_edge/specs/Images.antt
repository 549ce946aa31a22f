-- What is replayed from the record of calls on a file.
use Rattle.std.specs.Prelude.{◌≡◌, ℕ, Bool}
use Rattle.srv_edge.specs.Replay.{State, image_of}
use Rattle.srv_edge.specs.declared.memory_image.Replay.{Replay}

-- what a read gives in this state, and its image with this fill and these heads
pub record ShowsState (r : Replay) (s : State) (fill : ℕ) (heads : Bool) : Type 0 where
  pub seen : r.seen.items ≡ s.seen
  pub image : r.image.items ≡ image_of s fill heads
