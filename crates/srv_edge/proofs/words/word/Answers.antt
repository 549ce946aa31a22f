use Rattle.std.proofs.Common.{arith}
use Rattle.std.proofs.lemmas.Grind.{common_steps}
use Rattle.srv_edge.specs.Frames.{word_bytes}
use Rattle.srv_edge.proofs.words.word.Goals as goal

pub returns : goal.returns
unfolding word_bytes
returns c = grind (arith, common_steps)
