use Rattle.std.proofs.Common.{length}
use Rattle.tpi_stream.proofs.RecordLists.{SoFar}
use Rattle.tpi_stream.proofs.reading.records_in.Given as goal

abbrev pub invariant-loop-rest : goal.invariant-loop-rest
invariant-loop-rest l = SoFar l.bytes l.list l.rest

abbrev pub decreases-loop-rest : goal.decreases-loop-rest
decreases-loop-rest l = length l.rest
