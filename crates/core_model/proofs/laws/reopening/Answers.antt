use Rattle.core_model.proofs.Committing.{crash_comes}
use Rattle.core_model.proofs.Growing.{legal_nothing}
use Rattle.core_model.proofs.Running.{holds_always, reopened_anew, reopened_cut, reopened_file, reopened_limits, reopened_start}
use Rattle.core_model.specs.World.{world_after}
use Rattle.core_model.proofs.laws.reopening.Goals as goal

pub returns-clause-comes : goal.returns-clause-comes
returns-clause-comes c = λ b events start. crash_comes (world_after b events)

pub returns-clause-allowed : goal.returns-clause-allowed
returns-clause-allowed c = λ b events start cut others is. (holds_always b events start).crash cut is

pub returns-clause-anew : goal.returns-clause-anew
returns-clause-anew c = λ b events start cut others is. reopened_anew (world_after b events) cut others is

pub returns-clause-opened : goal.returns-clause-opened
returns-clause-opened c = λ b events start cut others is. reopened_cut (world_after b events) cut others is (holds_always b events start)

pub returns-clause-limits : goal.returns-clause-limits
returns-clause-limits c = λ b events start cut others is. reopened_limits (world_after b events) cut others is

pub returns-clause-settled : goal.returns-clause-settled
returns-clause-settled c = λ b events start cut others is. reopened_file (world_after b events) cut others is (holds_always b events start)

pub returns-clause-starts : goal.returns-clause-starts
returns-clause-starts c = λ b events start cut others is. reopened_start (world_after b events) cut others is (holds_always b events start)

pub returns-clause-legal : goal.returns-clause-legal
returns-clause-legal c = legal_nothing
