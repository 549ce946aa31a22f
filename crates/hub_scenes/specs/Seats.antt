-- A hub with the passes of its callers.
use Rattle.hub.specs.Ends.{IsFirst, IsFree}
use Rattle.hub_scenes.specs.declared.seats.Seats.{Seats}

-- Each pass is of the hub and in no turn, and each of its commits has ended. The first has made the three others and no more.
pub record AreSeated {D : Type 0} (s : Seats D) : Type 0 where
  pub free : IsFree s.hub s.first
  pub first : IsFirst 3 s.first
  pub one : IsFree s.hub s.one
  pub two : IsFree s.hub s.two
  pub three : IsFree s.hub s.three
