use Rattle.core_model.proofs.Open.{allowed_on, began_legal, call_legal, ended_legal, underway_legal}
use Rattle.core_model.proofs.laws.grows.Goals as goal

pub returns-clause-by_call : goal.returns-clause-by_call
returns-clause-by_call c = call_legal

pub returns-clause-by_began : goal.returns-clause-by_began
returns-clause-by_began c = λ b h start. began_legal b h

pub returns-clause-by_ended : goal.returns-clause-by_ended
returns-clause-by_ended c = λ b h start l k shown ok pass. ended_legal b h start l k shown pass ok

pub returns-clause-by_underway : goal.returns-clause-by_underway
returns-clause-by_underway c = underway_legal

pub returns-clause-allowed_on : goal.returns-clause-allowed_on
returns-clause-allowed_on c = allowed_on
