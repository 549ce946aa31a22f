use Rattle.std.proofs.Common.{◌+◌, ◌-◌, ◌*◌, ℕ, List, subst}
use Rattle.index_fields.specs.Fields.{Field, field_at, run_from}
use Rattle.index_fields.proofs.Steps.{run_step}
use Rattle.leaf_grammar.proofs.Visiting.{Completes, completes_one}
use Rattle.index_fields.proofs.fields.visit_run.Goals as goal

pub loop-k-preserved : goal.loop-k-preserved
loop-k-preserved g c =
    let space = c.args.space in
    let r = c.args.bytes.now in
    let from = c.args.from in
    let k = c.loop-k.k in
    let here = from + 4 * k in
    let all = run_from space r from c.args.count in
    let rest = run_from space r (from + 4 * (k + 1)) (c.args.count - (k + 1)) in
    let Left : List Field → Type 0 = λ fields. Completes g.V.Visit.does fields c.loop-k.visit all c.args.visit.now in
    let Shown : ℕ → Type 0 = λ value. g.V.Visit.does c.loop-k.visit (record { space = space; at = here; value = value }) c.field.new.self in
    completes_one g.V.Visit.does (field_at space r here) rest c.loop-k.visit c.field.new.self all c.args.visit.now
    (subst Shown c.read.ensures c.field.ensures)
    (subst Left (run_step space r from c.args.count k c.loop-k-test.true) c.loop-k.invariant)
