use Rattle.std.proofs.Common.{arith}
use Rattle.index_fields.proofs.Rooms.{list_room}
use Rattle.index_fields.proofs.fields.visit_list.Goals as goal

pub read-count-requires : goal.read-count-requires
read-count-requires g c =
    let room = list_room c.args.width c.in-Index.space c.args.bytes.now c.args.at (rw c.in-Index.is at c.requires.whole) in
    omega arith

pub overflow_add-at : goal.overflow_add-at
overflow_add-at g c =
    let room = list_room c.args.width c.in-Index.space c.args.bytes.now c.args.at (rw c.in-Index.is at c.requires.whole) in
    omega arith

pub visit_run-requires-clause-room : goal.visit_run-requires-clause-room
visit_run-requires-clause-room g c =
    let room = list_room c.args.width c.in-Index.space c.args.bytes.now c.args.at (rw c.in-Index.is at c.requires.whole) in
    rw (c.width_bytes.ensures, c.read-count.ensures) room
