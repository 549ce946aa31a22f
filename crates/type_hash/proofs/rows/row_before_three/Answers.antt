use Rattle.type_hash.proofs.Table.{row_before_three}
use Rattle.type_hash.proofs.rows.row_before_three.Goals as goal

pub returns : goal.returns
returns c = row_before_three c.args.low c.requires
