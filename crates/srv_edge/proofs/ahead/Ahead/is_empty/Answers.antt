use Rattle.std.proofs.Common.{◌≡◌, ◌-◌, drop, take, length, ap, sym, ◌∙◌, arith}
use Rattle.std.proofs.lemmas.List.{drop_all, length-take-le}
use Rattle.std.proofs.lemmas.Bool.Decides.{nat_tests}
use Rattle.srv_edge.proofs.Window.{length-window}
use Rattle.srv_edge.proofs.ahead.Ahead.is_empty.Goals as goal

pub returns : goal.returns
returns c =
    let here = c.self.inside in
    let long : length (drop here.from (take here.to here.bytes)) ≡ here.to - here.from = length-window here.from here.to here.bytes (omega arith) in (
      λ same.
          let at_end : c.self.inside.from ≡ c.self.inside.to = grind (arith, nat_tests, same) in
          sym c.self.view_is ∙ drop_all here.from (take here.to here.bytes) (omega (arith, at_end, length-take-le here.to here.bytes (omega arith))),
      λ none. grind (arith, nat_tests, long, ap length (c.self.view_is ∙ none)),
    )
