use Rattle.std.proofs.Common.{◌+◌, ◌*◌, ◌-◌}
use Rattle.index_fields.specs.Fields.{run_from}
use Rattle.leaf_grammar.proofs.Visiting.{Completes}
use Rattle.index_fields.proofs.fields.visit_run.Given as goal

abbrev pub invariant-loop-k : goal.invariant-loop-k
invariant-loop-k g l =
    Completes g.V.Visit.does (run_from l.space l.bytes (l.from + 4 * l.k) (l.count - l.k)) l.visit (run_from l.space l.bytes l.from l.count) l.initial.visit
