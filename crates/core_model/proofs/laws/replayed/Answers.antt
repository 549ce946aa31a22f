use Rattle.core_model.proofs.Showing.{leads}
use Rattle.core_model.proofs.laws.replayed.Goals as goal

pub returns : goal.returns
returns c = leads
