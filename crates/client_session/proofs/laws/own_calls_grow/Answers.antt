use Rattle.client_session.proofs.Sharing.{talk_makes}
use Rattle.client_session.proofs.laws.own_calls_grow.Goals as goal

pub returns : goal.returns
returns c = talk_makes
