use Rattle.std.proofs.Common.{ap, sym}
use Rattle.tpi_stream.specs.Hashes.{index_offsets}
use Rattle.type_store.proofs.new_file.no_records.Goals as goal

pub record_stream_from-requires-clause-offsets : goal.record_stream_from-requires-clause-offsets
unfolding index_offsets
record_stream_from-requires-clause-offsets c = sym (ap index_offsets c.new-records.ensures)
