use Rattle.std.proofs.Common.{refl}
use Rattle.tpi_stream.proofs.WrittenStreams.{length-record_stream_text, read_can, written_read}
use Rattle.tpi_stream.proofs.laws.written_records_are_read.Goals as goal

pub returns-clause-read : goal.returns-clause-read
returns-clause-read c = λ max_records max_bytes kept records most_records most_bytes can are. written_read max_records max_bytes kept records most_records most_bytes can are

pub returns-clause-kept : goal.returns-clause-kept
returns-clause-kept c = λ kept records. refl

pub returns-clause-can : goal.returns-clause-can
returns-clause-can c = λ max_records max_bytes stream r all is. (read_can max_records max_bytes stream r all is).0

pub returns-clause-records : goal.returns-clause-records
returns-clause-records c = λ max_records max_bytes stream r all is. (read_can max_records max_bytes stream r all is).1

pub returns-clause-length : goal.returns-clause-length
returns-clause-length c = λ kept records. length-record_stream_text kept records
