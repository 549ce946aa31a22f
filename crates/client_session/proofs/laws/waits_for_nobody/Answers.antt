use Rattle.client_session.proofs.Refused as refused
use Rattle.client_session.proofs.laws.waits_for_nobody.Goals as goal

pub returns : goal.returns
returns c = refused.waits_for_nobody
