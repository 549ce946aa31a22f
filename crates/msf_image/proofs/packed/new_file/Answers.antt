use Rattle.std.proofs.Common.{drop, lit<}
use Rattle.msf_image.specs.Packed.{packed_file, packed_image, present}
use Rattle.msf_image.specs.Relation.{Reads}
use Rattle.msf_image.proofs.PackedFile.{packed_reads}
use Rattle.msf_image.proofs.PackedLoops.{of_made}
use Rattle.msf_image.proofs.packed.new_file.Goals as goal

pub returns-clause-reads : goal.returns-clause-reads
returns-clause-reads c = λ limit few.
    let streams = present c.args.streams.now in
    of_made (packed_file c.args.block 0 streams) c.lay_file.result (λ file. Reads file limit (packed_image c.args.block 0 streams) (drop 1 streams)) c.lay_file.ensures (packed_reads c.args.block 0 limit streams (lit< tt) c.requires few)
