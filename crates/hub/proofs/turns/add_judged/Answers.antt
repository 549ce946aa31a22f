use Rattle.hub.proofs.Passing.{few_bytes}
use Rattle.hub.proofs.turns.add_judged.Goals as goal

pub add-requires-clause-short : goal.add-requires-clause-short
add-requires-clause-short g c = few_bytes c.args.kind c.args.bytes.now c.requires.judged
