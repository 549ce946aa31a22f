use Rattle.request_frames.proofs.OneRequest.{one_request}
use Rattle.request_frames.proofs.Framing.{read_again}
use Rattle.request_frames.proofs.laws.one_request_a_frame.Goals as goal

pub returns-clause-one : goal.returns-clause-one
returns-clause-one c = one_request

pub returns-clause-again : goal.returns-clause-again
returns-clause-again c = read_again
