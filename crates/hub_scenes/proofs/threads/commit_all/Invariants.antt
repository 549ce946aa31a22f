use Rattle.hub.specs.Ends.{IsFree}
use Rattle.hub_scenes.proofs.threads.commit_all.Given as goal

abbrev pub invariant-loop-commit : goal.invariant-loop-commit
invariant-loop-commit g l = IsFree l.hub l.pass
