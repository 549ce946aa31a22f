use Rattle.hub.proofs.Finishing.{ended_added}
use Rattle.hub_scenes.proofs.threads.add_two.Goals as goal

pub returns : goal.returns
returns g c = (c.add_type-2.ensures.idle, ended_added c.add_type-2.ensures.reply (ended_added c.add_type.ensures.reply c.requires.1))
