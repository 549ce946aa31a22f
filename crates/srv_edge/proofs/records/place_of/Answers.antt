use Rattle.srv_edge.proofs.Cutting.{lies}
use Rattle.srv_edge.proofs.records.place_of.Goals as goal

pub returns-clause-order : goal.returns-clause-order
returns-clause-order c = rw c.start_at.ensures (lies c.args.bytes.now 0 c.args.ends.now c.args.position c.requires.ends.rises c.requires.there).order

pub returns-clause-within : goal.returns-clause-within
returns-clause-within c = (lies c.args.bytes.now 0 c.args.ends.now c.args.position c.requires.ends.rises c.requires.there).within

pub returns-clause-cut : goal.returns-clause-cut
returns-clause-cut c = rw c.start_at.ensures (lies c.args.bytes.now 0 c.args.ends.now c.args.position c.requires.ends.rises c.requires.there).cut
