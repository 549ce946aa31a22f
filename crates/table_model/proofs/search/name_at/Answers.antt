use Rattle.std.proofs.Common.{length, ap, arith}
use Rattle.table_model.proofs.Counting.{bytes_of-room}
use Rattle.table_model.proofs.search.name_at.Goals as goal

pub overflow_add-start : goal.overflow_add-start
overflow_add-start c =
    omega (arith, bytes_of-room c.args.names.now c.loop-name.name-index c.name-item.result c.loop-name-test.true c.name-item.is, ap length c.bytes-in-loop-name.ensures, c.loop-name.invariant.so_far)

pub overflow_add-start-in-loop-name : goal.overflow_add-start-in-loop-name
overflow_add-start-in-loop-name c =
    omega (arith, bytes_of-room c.args.names.now c.loop-name.name-index c.name-item.result c.loop-name-test.true c.name-item.is, ap length c.bytes-in-loop-name.ensures, c.loop-name.invariant.so_far)
