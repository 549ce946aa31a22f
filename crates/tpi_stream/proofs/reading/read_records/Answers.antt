use Rattle.std.proofs.Common.{arith}
use Rattle.tpi_stream.proofs.Streams.{on_read}
use Rattle.tpi_stream.proofs.reading.read_records.Goals as goal

pub returns-clause-found : goal.returns-clause-found
returns-clause-found c = on_read c.args.limits.records c.args.limits.bytes c.args.stream.now c.records_at.result (λ i. omega (arith, c.type_inv.stream i)) c.records_at.ensures
