use Rattle.names_table.proofs.Offsets.{found_name}
use Rattle.names_table.proofs.table.NamesTable.get.Goals as goal

pub returns-clause-length : goal.returns-clause-length
returns-clause-length c = found_name c.get.result c.self.inside.list c.args.offset c.self.invariant.0.names c.get.ensures
