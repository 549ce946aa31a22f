use Rattle.std.proofs.Common.{◌<◌, sym, ◌∙◌}
use Rattle.leaf_grammar.proofs.Further.{row_further, if_ok}
use Rattle.leaf_grammar.proofs.walk.walk_row.Goals as goal

pub returns-clause-further : goal.returns-clause-further
returns-clause-further g c =
    if_ok c.walk_parts.result (λ end. c.args.at < end) (λ end e. row_further c.args.rows c.args.bytes.now c.args.at end
    (rw c.in_ok-row.ensures.row (sym c.walk_parts.ensures.end ∙ e)))
