use Rattle.type_hash.proofs.Table.{row_before_two}
use Rattle.type_hash.proofs.rows.row_before_two.Goals as goal

pub returns : goal.returns
returns c = row_before_two c.args.low c.requires
