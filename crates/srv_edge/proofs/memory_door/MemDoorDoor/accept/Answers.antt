use Rattle.std.proofs.lemmas.List.Elements.{All-rest}
use Rattle.srv_edge.specs.MemoryLink.{IsFreshLink}
use Rattle.srv_edge.proofs.memory_door.MemDoorDoor.accept.Goals as goal

-- the links that are left are fresh as all were
pub invariant_of-self-in-Some-clause-fresh : goal.invariant_of-self-in-Some-clause-fresh
invariant_of-self-in-Some-clause-fresh c = All-rest IsFreshLink c.in-Some.link _ _ c.in-Some.ensures.items c.args.self.now.fresh
