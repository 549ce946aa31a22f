use Rattle.std.proofs.Common.{◌≡◌, length, take, arith}
use Rattle.std.proofs.lemmas.Grind.{common_steps}
use Rattle.srv_edge.proofs.Filling.{take_filled}
use Rattle.srv_edge.proofs.piece.Piece.take_from.Goals as goal

pub returns-clause-fills : goal.returns-clause-fills
returns-clause-fills g c =
    let n = c.in_ok-n.n in
    let into = c.take.new.into in
    let short : length (take n into) ≡ n = grind (arith, common_steps) in (
      take n into,
      short,
      grind (arith, common_steps, take_filled),
      λ tells. ((c.in_ok-n.ensures.bytes tells).0, (c.in_ok-n.ensures.bytes tells).1),
      λ none tells. (c.in_ok-n.ensures.bytes tells).2 none,
    )
