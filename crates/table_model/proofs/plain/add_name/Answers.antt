use Rattle.std.proofs.Common.{ap, ◌∙◌, arith}
use Rattle.names_table.specs.Names.{bytes_of}
use Rattle.table_model.proofs.Counting.{bytes_of-push}
use Rattle.table_model.proofs.plain.add_name.Goals as goal

pub returns-in-Ok-clause-kept : goal.returns-in-Ok-clause-kept
returns-in-Ok-clause-kept c =
    rw c.in-Ok.ensures.ok (omega (arith, bytes_of-push c.args.names.now.items c.args.name.now, c.if-needed-limits.false, c.bytes_of-offset.ensures ∙ ap bytes_of c.deref-2.ensures.value))
