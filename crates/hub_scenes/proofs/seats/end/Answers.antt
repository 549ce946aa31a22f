use Rattle.hub.proofs.Finishing.{first_retired}
use Rattle.hub_scenes.proofs.seats.end.Goals as goal

pub close-requires-clause-all_ended : goal.close-requires-clause-all_ended
close-requires-clause-all_ended g c =
    let one = first_retired 2 c.args.seats.first c.retire.new.first c.args.seats.one c.retire.new.first.seen c.retire.ensures.ended c.requires.one.1 c.requires.first in
    let two = first_retired 1 c.retire.new.first c.retire-2.new.first c.args.seats.two c.retire-2.new.first.seen c.retire-2.ensures.ended c.requires.two.1 one in
    (first_retired 0 c.retire-2.new.first c.retire-3.new.first c.args.seats.three c.retire-3.new.first.seen c.retire-3.ensures.ended c.requires.three.1 two).ended
