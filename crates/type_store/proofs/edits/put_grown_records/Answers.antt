use Rattle.std.proofs.Common.{◌≤◌, arith}
use Rattle.type_store.proofs.Building.{old_bytes}
use Rattle.type_store.proofs.edits.put_grown_records.Goals as goal

pub overflow_add-end : goal.overflow_add-end
overflow_add-end c =
    let few = old_bytes c.args.change.now.old.now c.args.change.now.new.now c.args.change.now.records.now c.requires.change in
    omega (arith, few, c.bytes-end.ensures, c.requires.change.short)

pub rest_of_records-requires-2-clause-inside : goal.rest_of_records-requires-2-clause-inside
rest_of_records-requires-2-clause-inside c =
    let few = old_bytes c.args.change.now.old.now c.args.change.now.new.now c.args.change.now.records.now c.requires.change in
    omega (arith, few, c.bytes-end.ensures, c.block_start-at.ensures.before)
