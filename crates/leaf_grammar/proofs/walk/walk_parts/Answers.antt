use Rattle.std.proofs.Common.{◌+◌, ◌∙◌, List, drop, get_or, sym, subst, arith}
use Rattle.std.proofs.lemmas.Grind.{common_steps}
use Rattle.leaf_grammar.specs.declared.grammar.Space.TheVariants.{Types}
use Rattle.leaf_grammar.specs.declared.grammar.Form.TheVariants.{Index}
use Rattle.leaf_grammar.specs.declared.grammar.Part.TheVariants.{Always}
use Rattle.leaf_grammar.specs.Leaf.{cursor}
use Rattle.leaf_grammar.specs.Found.{Placed, found_at, found_in, placed}
use Rattle.leaf_grammar.proofs.Finding.{found_step}
use Rattle.leaf_grammar.proofs.Visiting.{Completes, completes_more}
use Rattle.leaf_grammar.proofs.walk.walk_parts.Goals as goal

pub loop-part-preserved : goal.loop-part-preserved
loop-part-preserved g c =
    let i = c.loop-part.part-index in
    let parts = c.args.parts.now in
    let r = c.args.bytes.now in
    let does = g.V.VisitForms.does r in
    let any = Always (Index Types) in
    let all = found_in placed parts r (cursor c.args.from 0) in
    let step = found_step placed parts i any r c.loop-part.cursor c.in_ok-next.next c.loop-part-test.true (sym c.in_ok-next.ensures.cursor) in
    record {
      inside = c.in_ok-next.ensures.inside;
      rest = grind (arith, common_steps);
      visits = completes_more does (found_at placed (get_or parts i any) r c.loop-part.cursor) (found_in placed (drop (i + 1) parts) r c.in_ok-next.next) c.loop-part.visit c.show.new.visit all c.args.visit.now c.show.ensures.visits
          (let P : List Placed → Type 0 = λ forms. Completes does forms c.loop-part.visit all c.args.visit.now in subst P step c.loop-part.invariant.visits);
      loans = c.show.ensures.loans ∙ c.loop-part.invariant.loans;
    }
