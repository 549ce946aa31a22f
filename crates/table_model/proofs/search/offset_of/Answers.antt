use Rattle.std.proofs.Common.{length, ap, arith}
use Rattle.table_model.proofs.Counting.{bytes_of-room}
use Rattle.table_model.proofs.search.offset_of.Goals as goal

pub overflow_add-offset : goal.overflow_add-offset
overflow_add-offset c =
    omega (arith, bytes_of-room c.args.names.now c.loop-known.known-index c.known-item.result c.loop-known-test.true c.known-item.is, ap length c.bytes-in-loop-known.ensures, c.loop-known.invariant.so_far)

pub overflow_add-offset-in-loop-known : goal.overflow_add-offset-in-loop-known
overflow_add-offset-in-loop-known c =
    omega (arith, bytes_of-room c.args.names.now c.loop-known.known-index c.known-item.result c.loop-known-test.true c.known-item.is, ap length c.bytes-in-loop-known.ensures, c.loop-known.invariant.so_far)
