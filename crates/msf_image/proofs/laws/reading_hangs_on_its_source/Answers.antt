use Rattle.msf_image.proofs.Sparing.{headed_reads, same_reads, torn_reads, whole_reads}
use Rattle.msf_image.proofs.laws.reading_hangs_on_its_source.Goals as goal

pub returns-clause-whole : goal.returns-clause-whole
returns-clause-whole c = whole_reads

pub returns-clause-same : goal.returns-clause-same
returns-clause-same c = same_reads

pub returns-clause-torn : goal.returns-clause-torn
returns-clause-torn c = torn_reads

pub returns-clause-with_head : goal.returns-clause-with_head
returns-clause-with_head c = headed_reads
