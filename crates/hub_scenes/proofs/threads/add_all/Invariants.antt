use Rattle.hub.specs.Ends.{IsFree}
use Rattle.hub_scenes.proofs.threads.add_all.Given as goal

abbrev pub invariant-loop-round : goal.invariant-loop-round
invariant-loop-round g l = IsFree l.hub l.pass
