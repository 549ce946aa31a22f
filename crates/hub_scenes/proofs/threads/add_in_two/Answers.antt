use denote.Param.Send.{sendable}
use Rattle.std.proofs.Crossing.{crosses}
use Rattle.turnstile.proofs.Crossing.{moves}
use Rattle.hub.proofs.Crossing.{shares}
use Rattle.hub_scenes.proofs.threads.add_in_two.Goals as goal

pub join-requires-send-F : goal.join-requires-send-F
join-requires-send-F g c κs within = search (sendable, crosses, moves, shares) depth 40 fits 30000

pub join-requires-send-A : goal.join-requires-send-A
join-requires-send-A g c κs within = search (sendable, crosses, moves, shares) depth 40 fits 30000
