use Rattle.client_session.proofs.Course.{each_safe, starts}
use Rattle.client_session.proofs.laws.each_answer.Goals as goal

pub returns-clause-starts : goal.returns-clause-starts
returns-clause-starts g c = λ start. starts g.D.Device start

pub returns-clause-safe : goal.returns-clause-safe
returns-clause-safe g c = λ version start. each_safe g.D.Device start g.met.D.Device.only_now version
