-- What is seen of a door in memory.
use Rattle.std.specs.Prelude.{Bool, List, [], ◌∷◌}
use Rattle.srv_edge.specs.declared.door.Accepted.{Accepted}
use Rattle.srv_edge.specs.declared.door.Accepted.TheVariants.{Link, Closed, Failed}
use Rattle.srv_edge.specs.declared.failed.SessionEnd.{SessionEnd}
use Rattle.srv_edge.specs.declared.memory.Failing.{Failing}
use Rattle.srv_edge.specs.declared.memory.MemLink.{MemLink}
use Rattle.srv_edge.specs.declared.memory_door.MemDoor.{MemDoor}
use Rattle.srv_edge.specs.Replay.{is_to_fail}

-- the links that are still to be handed out
abbrev pub waiting : MemDoor → List MemLink
waiting d = d.links.items

-- the links that were taken back, each with its end
abbrev pub ended : MemDoor → List (MemLink × SessionEnd)
ended d = d.ended.items

-- which calls are to fail, and how many were made
abbrev pub failing_accepts : MemDoor → Failing
failing_accepts d = d.failing

-- whether the next accept fails
abbrev pub fails_next : MemDoor → Bool
fails_next d = is_to_fail d.failing.calls.items d.failing.made

-- the link that is handed out, as a list of one or none
abbrev pub handed_out : Accepted MemLink → List MemLink
handed_out (Link l) = l ∷ []
handed_out Closed = []
handed_out Failed = []
