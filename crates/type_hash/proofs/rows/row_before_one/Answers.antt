use Rattle.type_hash.proofs.Table.{row_before_one}
use Rattle.type_hash.proofs.rows.row_before_one.Goals as goal

pub returns : goal.returns
returns c = row_before_one c.args.low c.requires
