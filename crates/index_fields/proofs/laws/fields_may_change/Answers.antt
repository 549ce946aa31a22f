use Rattle.index_fields.proofs.Fielded.{leaf_changed}
use Rattle.index_fields.proofs.laws.fields_may_change.Goals as goal

pub returns-clause-leaf : goal.returns-clause-leaf
returns-clause-leaf c = λ space old new h same. (leaf_changed space old new h same).0

pub returns-clause-places : goal.returns-clause-places
returns-clause-places c = λ space old new h same. (leaf_changed space old new h same).1
