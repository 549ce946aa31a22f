use Rattle.std.proofs.Common.{arith}
use Rattle.std.proofs.lemmas.Grind.{common_steps}
use Rattle.srv_edge.specs.Frames.{half_bytes}
use Rattle.srv_edge.proofs.words.half.Goals as goal

pub returns : goal.returns
unfolding half_bytes
returns c = grind (arith, common_steps)
