use Rattle.std.proofs.Common.{arith}
use Rattle.std.proofs.lemmas.Grind.{common_steps}
use Rattle.srv_edge.proofs.Filling.{take_overwritten}
use Rattle.srv_edge.proofs.piece.Piece.set.Goals as goal

pub returns : goal.returns
returns c = grind (arith, common_steps, take_overwritten)
