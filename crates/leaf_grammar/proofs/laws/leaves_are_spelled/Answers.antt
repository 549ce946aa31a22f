use Rattle.leaf_grammar.proofs.Leaves.{leaf_spelled, leaf_read}
use Rattle.leaf_grammar.proofs.laws.leaves_are_spelled.Goals as goal

pub returns-clause-spelled : goal.returns-clause-spelled
returns-clause-spelled c = leaf_spelled

pub returns-clause-read : goal.returns-clause-read
returns-clause-read c = leaf_read
