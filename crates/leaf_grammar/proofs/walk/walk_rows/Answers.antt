use Rattle.std.proofs.Common.{◌-◌, ◌∙◌, List, [], length, Ok, refl, sym, subst, arith}
use Rattle.leaf_grammar.specs.Found.{Placed, found_in_row, found_in_rows, placed}
use Rattle.leaf_grammar.proofs.Steps.{rows_end_step, rows_step}
use Rattle.leaf_grammar.proofs.Visiting.{Completes, completes_end, completes_more}
use Rattle.leaf_grammar.proofs.walk.walk_rows.Goals as goal

pub loop-at-init : goal.loop-at-init
loop-at-init g c = record { inside = c.requires.within; rest = (length c.args.bytes.now, omega arith, refl, λ after k. k); loans = refl }

pub loop-at-preserved : goal.loop-at-preserved
loop-at-preserved g c =
    let rows = c.args.rows in
    let r = c.args.bytes.now in
    let at = c.loop-at.at in
    let next = c.in_ok-at.at in
    let does = g.V.VisitForms.does r in
    let left = c.loop-at.invariant.rest in
    let all = found_in_rows placed rows (length r) r c.args.from in
    let rest = found_in_rows placed rows (left.0 - 1) r next in
    let Left : List Placed → Type 0 = λ forms. Completes does forms c.loop-at.visit all c.args.visit.now in
    record {
      inside = c.in_ok-at.ensures.inside;
      rest = (
        left.0 - 1,
        omega (arith, left.1, c.in_ok-at.ensures.further, c.loop-at-test.true),
        sym (rows_end_step rows left.0 r at next c.loop-at-test.true left.1 (sym c.in_ok-at.ensures.end)) ∙ left.2,
        completes_more does (found_in_row placed rows r at) rest c.loop-at.visit c.walk_row.new.visit all c.args.visit.now c.walk_row.ensures.visits
            (subst Left (rows_step placed rows left.0 r at (Ok next) c.loop-at-test.true left.1 (sym c.in_ok-at.ensures.end)) left.3),
      );
      loans = c.walk_row.ensures.loans ∙ c.loop-at.invariant.loans;
    }

pub returns-in_err-at-clause-visits : goal.returns-in_err-at-clause-visits
returns-in_err-at-clause-visits g c =
    let rows = c.args.rows in
    let r = c.args.bytes.now in
    let at = c.loop-at.at in
    let does = g.V.VisitForms.does r in
    let left = c.loop-at.invariant.rest in
    let all = found_in_rows placed rows (length r) r c.args.from in
    let Left : List Placed → Type 0 = λ forms. Completes does forms c.loop-at.visit all c.args.visit.now in
    completes_end does c.walk_row.new.visit all c.args.visit.now
    (completes_more does (found_in_row placed rows r at) [] c.loop-at.visit c.walk_row.new.visit all c.args.visit.now c.walk_row.ensures.visits
    (subst Left (rows_step placed rows left.0 r at _ c.loop-at-test.true left.1 (sym c.walk_row.ensures.end ∙ c.in_err-at.was)) left.3))
