use Rattle.std.proofs.Common.{◌≤◌, ◌*◌, length, ap, arith}
use Rattle.tpi_stream.proofs.WrittenStreams.{length-index_offsets}
use Rattle.tpi_stream.proofs.written.written_header.Goals as goal

pub overflow_cast-offsets : goal.overflow_cast-offsets
overflow_cast-offsets c = omega (arith, c.requires.few, ap length c.requires.offsets, length-index_offsets c.args.records.now)

pub header_with-requires-clause-offsets : goal.header_with-requires-clause-offsets
header_with-requires-clause-offsets c = omega (arith, ap length c.requires.offsets, length-index_offsets c.args.records.now, c.len.ensures)
