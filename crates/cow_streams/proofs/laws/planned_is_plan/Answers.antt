use Rattle.cow_streams.proofs.Standing.{plan_is}
use Rattle.cow_streams.proofs.laws.planned_is_plan.Goals as goal

pub returns : goal.returns
returns c = plan_is
