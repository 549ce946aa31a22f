use Rattle.table_model.proofs.Leaves.{leaf_is_record}
use Rattle.table_model.proofs.add.add_leaf.Goals as goal

pub put-requires-clause-record : goal.put-requires-clause-record
put-requires-clause-record c = leaf_is_record c.args.space c.args.bytes.now c.requires.leaf
