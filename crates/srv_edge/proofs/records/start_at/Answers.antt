use Rattle.std.proofs.Common.{sym, arith}
use Rattle.srv_edge.proofs.Cutting.{start_of-get_or}
use Rattle.srv_edge.proofs.records.start_at.Goals as goal

pub returns-else-position-eq0 : goal.returns-else-position-eq0
returns-else-position-eq0 c = sym (start_of-get_or 0 c.args.ends.now c.args.position (omega arith) (omega (arith, c.requires)))
