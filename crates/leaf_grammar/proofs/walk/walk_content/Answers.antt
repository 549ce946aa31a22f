use Rattle.std.proofs.Common.{◌++◌, ℕ, Result, subst}
use Rattle.leaf_grammar.specs.declared.grammar.Malformed.{Malformed}
use Rattle.leaf_grammar.specs.Leaf.{cursor}
use Rattle.leaf_grammar.specs.Found.{found_behind, found_in, onwards, placed}
use Rattle.leaf_grammar.specs.Visits.{Visits}
use Rattle.leaf_grammar.proofs.Visiting.{visits_append}
use Rattle.leaf_grammar.proofs.walk.walk_content.Goals as goal

pub returns-clause-visits : goal.returns-clause-visits
returns-clause-visits g c =
    let r = c.args.bytes.now in
    let does = g.V.VisitForms.does r in
    let front = found_in placed c.args.parts.now r (cursor 4 0) in
    let Done : Result ℕ Malformed → Type 0 = λ end. Visits does (front ++ onwards end (found_behind placed c.args.rows r)) c.args.visit.now c.walk_tail.new.visit in
    subst Done c.in_ok-behind.ensures.end
    (visits_append does front (found_behind placed c.args.rows r c.in_ok-behind.behind) c.args.visit.now c.walk_parts.new.visit c.walk_tail.new.visit
    c.walk_parts.ensures.visits c.walk_tail.ensures.visits)
