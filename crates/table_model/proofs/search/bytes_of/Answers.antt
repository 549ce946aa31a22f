use Rattle.std.proofs.Common.{length, ap, arith}
use Rattle.table_model.proofs.Counting.{bytes_of-room}
use Rattle.table_model.proofs.search.bytes_of.Goals as goal

pub overflow_add-bytes : goal.overflow_add-bytes
overflow_add-bytes c =
    omega (arith, bytes_of-room c.args.names.now c.loop-name.name-index c.name-item.result c.loop-name-test.true c.name-item.is, ap length c.bytes.ensures, c.loop-name.invariant)

pub overflow_add-bytes-in-loop-name : goal.overflow_add-bytes-in-loop-name
overflow_add-bytes-in-loop-name c =
    omega (arith, bytes_of-room c.args.names.now c.loop-name.name-index c.name-item.result c.loop-name-test.true c.name-item.is, ap length c.bytes.ensures, c.loop-name.invariant)
