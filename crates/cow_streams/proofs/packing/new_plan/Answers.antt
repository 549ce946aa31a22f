use Rattle.std.proofs.Common.{◌+◌, ◌++◌, ◌∙◌, ap, map, arith}
use Rattle.std.specs.List.{range_with_len}
use Rattle.msf_image.specs.Packed.{present}
use Rattle.msf_image.proofs.PackedLoops.{has_room}
use Rattle.cow_streams.specs.Packing.{given_write}
use Rattle.cow_streams.proofs.NewFile.{count_is, plan_made}
use Rattle.cow_streams.proofs.packing.new_plan.Goals as goal

pub overflow_add-count : goal.overflow_add-count
overflow_add-count c =
    let streams = present c.args.streams.now in
    let room = has_room c.args.block streams c.requires in
    let count = count_is c.args.block streams c.in_ok-new.new.image c.requires.block c.in_ok-new.ensures.image in
    omega (arith, room.last, count, c.given_before-count.ensures)

pub put_given-requires-clause-few : goal.put_given-requires-clause-few
put_given-requires-clause-few c =
    let streams = present c.args.streams.now in
    let room = has_room c.args.block streams c.requires in
    let count = count_is c.args.block streams c.in_ok-new.new.image c.requires.block c.in_ok-new.ensures.image in
    omega (arith, room.last, count, c.given_before-count.ensures)

pub returns : goal.returns
returns c =
    let streams = present c.args.streams.now in
    let count = ap (λ n. n + 1) c.given_before-count.ensures ∙ count_is c.args.block streams c.in_ok-new.new.image c.requires.block c.in_ok-new.ensures.image in
    plan_made c.args.block _ streams c.in_ok-new.new.image c.deref.result.now c.deref-2.result.now c.put_given.new.writes.items c.put_map.new.writes.items c.new.result c.in_ok-new.ensures.image
    (c.deref.ensures.value ∙ c.in_ok-new.ensures.content) (c.deref-2.ensures.value ∙ c.in_ok-map.ensures.text) count
    (c.in_ok-put_given.ensures ∙ ap (λ xs. xs ++ map (given_write c.args.block c.deref.result.now) (range_with_len 0 (c.given_before-count.result + 1))) c.in_ok-writes.ensures.items) c.in_ok-put_map.ensures c.new.ensures
