use Rattle.std.proofs.Common.{ap}
use Rattle.tpi_stream.specs.Hashes.{index_offsets}
use Rattle.type_store.proofs.base.RecordBase.empty.Goals as goal

pub returns : goal.returns
unfolding index_offsets
returns c = λ i. record { count = 0; bytes = 0; offsets = c.new.ensures.items i }
