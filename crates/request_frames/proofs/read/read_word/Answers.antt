use Rattle.std.proofs.Common.{length, ap, arith}
use Rattle.srv_edge.proofs.Numbers.{length-word_bytes}
use Rattle.request_frames.proofs.read.read_word.Goals as goal

pub returns-else-body-eq4-clause-bad : goal.returns-else-body-eq4-clause-bad
returns-else-body-eq4-clause-bad c = λ n e. omega (arith, ap length e, length-word_bytes n)
