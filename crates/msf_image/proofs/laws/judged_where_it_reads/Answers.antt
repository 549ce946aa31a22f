use Rattle.msf_image.proofs.Relating.{judged_from, reads_judged}
use Rattle.msf_image.proofs.laws.judged_where_it_reads.Goals as goal

pub returns-clause-judged : goal.returns-clause-judged
returns-clause-judged c = judged_from

pub returns-clause-reads : goal.returns-clause-reads
returns-clause-reads c = reads_judged
