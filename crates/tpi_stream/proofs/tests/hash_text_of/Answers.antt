use Rattle.tpi_stream.specs.Hashes.{index_offsets}
use Rattle.tpi_stream.proofs.tests.hash_text_of.Goals as goal

pub extend_offsets-requires-clause-before : goal.extend_offsets-requires-clause-before
unfolding index_offsets
extend_offsets-requires-clause-before c = c.new-offsets.ensures.items
