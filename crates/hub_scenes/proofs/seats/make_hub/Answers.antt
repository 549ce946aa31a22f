use Rattle.hub_scenes.proofs.Scenes.{new_book}
use Rattle.hub_scenes.proofs.seats.make_hub.Goals as goal

pub new-requires-4 : goal.new-requires-4
new-requires-4 c = (c.in-Ok.file, new_book c.args.limits c.in-Ok.file _ _ c.new-3.result c.new-3.ensures c.in-Ok.ensures.opened)
