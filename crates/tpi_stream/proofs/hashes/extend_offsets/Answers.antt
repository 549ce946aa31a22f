use Rattle.tpi_stream.proofs.Growing.{on_extended}
use Rattle.tpi_stream.proofs.hashes.extend_offsets.Goals as goal

pub returns : goal.returns
returns c = on_extended c.put_offsets.result c.args.records.now c.args.from c.args.text.now.items c.put_offsets.new.text.items c.requires.from c.requires.before c.put_offsets.ensures
