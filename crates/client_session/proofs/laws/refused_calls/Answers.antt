use Rattle.client_session.proofs.Passing.{refused_for}
use Rattle.client_session.proofs.laws.refused_calls.Goals as goal

pub returns : goal.returns
returns c = λ old new call answered by. refused_for old call answered new by.made
