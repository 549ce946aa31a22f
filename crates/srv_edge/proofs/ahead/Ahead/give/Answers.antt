use Rattle.std.proofs.Common.{◌≡◌, ◌≤◌, ◌+◌, ◌-◌, ◌++◌, drop, take, length, ap, ◌∙◌, arith, length-drop}
use Rattle.std.proofs.lemmas.List.{length-take-le, take_at}
use Rattle.srv_edge.proofs.Window.{cut-window, length-window}
use Rattle.srv_edge.proofs.ahead.Ahead.give.Goals as goal

pub returns-clause-count : goal.returns-clause-count
returns-clause-count c =
    let here = c.self.inside in
    omega (arith, ap length c.self.view_is, length-window here.from here.to here.bytes (omega arith))

pub returns-clause-given : goal.returns-clause-given
returns-clause-given c =
    let here = c.self.inside in
    let n = c.min-n.result in
    let behind = drop (here.from + n) (take here.to here.bytes) in
    let le : here.from + n ≤ here.to = omega arith in
    let count : here.from + n - here.from ≡ n = omega arith in
    let copied : c.copy_from_slice.new.self ≡ take n (drop here.from here.bytes) = c.copy_from_slice.ensures.after ∙ ap (λ m. take m (drop here.from here.bytes)) count in
    let long : length c.copy_from_slice.new.self ≡ n =
    ap length copied ∙ length-take-le n (drop here.from here.bytes) (omega (arith, length-drop here.from here.bytes)) in
    ap (λ xs. xs ++ behind) (take_at c.copy_from_slice.new.self (drop n c.args.into.now) n long ∙ copied)
    ∙ cut-window here.from here.to n here.bytes le ∙ c.self.view_is
