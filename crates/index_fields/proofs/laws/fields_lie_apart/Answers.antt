use Rattle.index_fields.proofs.Fielded.{leaf_lies, leaf_within, values_there}
use Rattle.index_fields.proofs.laws.fields_lie_apart.Goals as goal

pub returns-clause-apart : goal.returns-clause-apart
returns-clause-apart c = leaf_lies

pub returns-clause-within : goal.returns-clause-within
returns-clause-within c = leaf_within

pub returns-clause-values : goal.returns-clause-values
returns-clause-values c = values_there
