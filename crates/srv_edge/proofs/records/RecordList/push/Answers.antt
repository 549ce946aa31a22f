use Rattle.std.proofs.Common.{◌≡◌, ◌++◌, [], ◌∷◌, length, ap, sym, ◌∙◌, arith}
use Rattle.std.proofs.lemmas.Grind.{common_steps}
use Rattle.srv_edge.specs.Records.{joined, cut_at}
use Rattle.srv_edge.proofs.Cutting.{length-cut_at, joined-cut_at, cut_at-push, ends-push}
use Rattle.srv_edge.proofs.records.RecordList.push.Goals as goal

pub overflow_cast-end : goal.overflow_cast-end
overflow_cast-end c =
    let j = ap (λ r. length (joined r)) (sym c.self.view_is) ∙ ap length (joined-cut_at c.self.inside.bytes.items 0 c.self.inside.ends.items c.self.invariant.rises) in
    grind (arith, common_steps, j)

pub invariant_of-self-2 : goal.invariant_of-self-2
invariant_of-self-2 c =
    let bytes = c.self.inside.bytes.items in
    let ends = c.self.inside.ends.items in
    let more = c.args.bytes.now in
    let j = ap (λ r. length (joined r)) (sym c.self.view_is) ∙ ap length (joined-cut_at bytes 0 ends c.self.invariant.rises) in
    let n = sym (length-cut_at bytes 0 ends) ∙ ap length c.self.view_is in
    let b : c.extend_from_slice.new.self.items ≡ bytes ++ more = c.in_ok-extend_from_slice.ensures.items in
    let e : c.push.new.self.items ≡ ends ++ (length (bytes ++ more)) ∷ [] = grind (arith, common_steps, ap length b) in
    rw (b, e) (ends-push bytes ends more c.self.invariant (omega (arith, n, c.requires.records)) (omega (arith, j, c.requires.bytes)))

pub returns-clause-ok : goal.returns-clause-ok
returns-clause-ok c =
    let bytes = c.self.inside.bytes.items in
    let ends = c.self.inside.ends.items in
    let more = c.args.bytes.now in
    let b : c.extend_from_slice.new.self.items ≡ bytes ++ more = c.in_ok-extend_from_slice.ensures.items in
    let e : c.push.new.self.items ≡ ends ++ (length (bytes ++ more)) ∷ [] = grind (arith, common_steps, ap length b) in
    ap (λ xs. cut_at xs 0 c.push.new.self.items) b ∙ ap (cut_at (bytes ++ more) 0) e
    ∙ cut_at-push bytes 0 ends more c.self.invariant.rises ∙ ap (λ rs. rs ++ more ∷ []) c.self.view_is
