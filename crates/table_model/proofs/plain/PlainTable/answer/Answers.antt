use Rattle.std.proofs.Common.{arith}
use Rattle.table_model.proofs.Counting.{length-le}
use Rattle.table_model.proofs.plain.PlainTable.answer.Goals as goal

pub overflow_cast-result : goal.overflow_cast-result
overflow_cast-result c =
    let names = c.self.inside.names.items in
    omega (arith, length-le names, c.self.invariant.kept_names, c.self.inside.limits.few_name_bytes, c.len.ensures, c.self.inside.names.ok)
