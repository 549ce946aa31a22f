use Rattle.msf_image.proofs.PackedFile.{packed_reads, packed_whole}
use Rattle.msf_image.proofs.laws.packed_file_reads.Goals as goal

pub returns-clause-reads : goal.returns-clause-reads
returns-clause-reads c = packed_reads

pub returns-clause-whole : goal.returns-clause-whole
returns-clause-whole c = packed_whole
