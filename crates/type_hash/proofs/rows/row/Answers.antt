use Rattle.type_hash.proofs.Table.{table_row}
use Rattle.type_hash.proofs.rows.row.Goals as goal

pub returns : goal.returns
returns c = table_row c.args.low c.requires
