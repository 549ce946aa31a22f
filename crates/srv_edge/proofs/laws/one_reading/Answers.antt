use Rattle.srv_edge.proofs.Streams.{one_reading}
use Rattle.srv_edge.proofs.laws.one_reading.Goals as goal

pub returns-clause-frames : goal.returns-clause-frames
returns-clause-frames c = λ version bytes fs gs t u one two. (one_reading version bytes fs gs t u one two).frames

pub returns-clause-tail : goal.returns-clause-tail
returns-clause-tail c = λ version bytes fs gs t u one two. (one_reading version bytes fs gs t u one two).tail
