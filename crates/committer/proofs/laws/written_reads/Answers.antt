use Rattle.committer.proofs.Steps.{planned_reads}
use Rattle.committer.proofs.laws.written_reads.Goals as goal

pub returns : goal.returns
returns c = planned_reads
