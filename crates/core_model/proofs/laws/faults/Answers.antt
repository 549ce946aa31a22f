use Rattle.core_model.proofs.Open.{faulted_append, faulted_more, faulted_same}
use Rattle.core_model.proofs.laws.faults.Goals as goal

pub returns-clause-parts : goal.returns-clause-parts
returns-clause-parts c = faulted_append

pub returns-clause-one_more : goal.returns-clause-one_more
returns-clause-one_more c = faulted_more

pub returns-clause-no_more : goal.returns-clause-no_more
returns-clause-no_more c = faulted_same
