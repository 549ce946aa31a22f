use Rattle.hub.proofs.Finishing.{ended_committed}
use Rattle.hub_scenes.proofs.threads.commit_all.Goals as goal

pub loop-commit-preserved : goal.loop-commit-preserved
loop-commit-preserved g c = (c.commit.ensures.idle, ended_committed c.commit.ensures.reply c.commit.ensures.same c.commit.ensures.sound c.loop-commit.invariant.1)
