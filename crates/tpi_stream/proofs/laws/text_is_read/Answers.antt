use Rattle.tpi_stream.proofs.Streams.{AreBytes-all, spelled, stream_read}
use Rattle.tpi_stream.proofs.laws.text_is_read.Goals as goal

pub returns-clause-read : goal.returns-clause-read
returns-clause-read c = λ max_records max_bytes stream r is. stream_read max_records max_bytes stream r is

pub returns-clause-spelled : goal.returns-clause-spelled
returns-clause-spelled c = λ max_records max_bytes stream r all is. spelled max_records max_bytes stream r (AreBytes-all stream all) is
