use Rattle.srv_edge.proofs.Settled.{keeps_settled}
use Rattle.srv_edge.proofs.laws.images_keep_settled.Goals as goal

pub returns : goal.returns
returns c = keeps_settled
