use Rattle.std.proofs.Common.{◌+◌, ◌*◌, length, ap, ◌∙◌, arith}
use Rattle.msf_blocks.specs.Blocks.{blocks_of_size}
use Rattle.msf_image.specs.Packed.{present}
use Rattle.msf_image.proofs.PackedLoops.{addr_as, bytes_as, has_room, image_as, listed_as, sizes_of}
use Rattle.msf_image.proofs.packed.lay_image.Goals as goal

pub stream_blocks-kept-requires-clause-sizes : goal.stream_blocks-kept-requires-clause-sizes
stream_blocks-kept-requires-clause-sizes c = sizes_of c.args.streams.now c.requires.sizes

pub overflow_cast-kept : goal.overflow_cast-kept
overflow_cast-kept c = let room = has_room c.args.block (present c.args.streams.now) c.requires in omega (arith, room.kept, c.stream_blocks-kept.ensures)

pub overflow_mul-dir_bytes-2 : goal.overflow_mul-dir_bytes-2
overflow_mul-dir_bytes-2 c = let room = has_room c.args.block (present c.args.streams.now) c.requires in omega (arith, room.kept, c.stream_blocks-kept.ensures)

pub overflow_add-dir_bytes-2 : goal.overflow_add-dir_bytes-2
overflow_add-dir_bytes-2 c =
    let room = has_room c.args.block (present c.args.streams.now) c.requires in
    omega (arith, room.text, bytes_as c.args.block c.stream_blocks-kept.result c.args.streams.now c.stream_blocks-kept.ensures)

pub overflow_add-kept : goal.overflow_add-kept
overflow_add-kept c =
    let room = has_room c.args.block (present c.args.streams.now) c.requires in
    let count = c.blocks_of_size-count.ensures ∙ ap (blocks_of_size c.args.block) (bytes_as c.args.block c.stream_blocks-kept.result c.args.streams.now c.stream_blocks-kept.ensures) in
    omega (arith, count, c.stream_blocks-kept.ensures, room.last)

pub given_block-map_addr-requires-clause-few : goal.given_block-map_addr-requires-clause-few
given_block-map_addr-requires-clause-few c =
    let room = has_room c.args.block (present c.args.streams.now) c.requires in
    let count = c.blocks_of_size-count.ensures ∙ ap (blocks_of_size c.args.block) (bytes_as c.args.block c.stream_blocks-kept.result c.args.streams.now c.stream_blocks-kept.ensures) in
    omega (arith, count, c.stream_blocks-kept.ensures, room.last)

pub overflow_add-head : goal.overflow_add-head
overflow_add-head c =
    let room = has_room c.args.block (present c.args.streams.now) c.requires in
    let count = c.blocks_of_size-count.ensures ∙ ap (blocks_of_size c.args.block) (bytes_as c.args.block c.stream_blocks-kept.result c.args.streams.now c.stream_blocks-kept.ensures) in
    let addr = addr_as c.args.block c.stream_blocks-kept.result c.blocks_of_size-count.result (present c.args.streams.now) c.stream_blocks-kept.ensures count in
    omega (arith, c.given_block-map_addr.ensures, addr, room.map_addr)

pub given_from-requires-clause-few : goal.given_from-requires-clause-few
given_from-requires-clause-few c =
    let room = has_room c.args.block (present c.args.streams.now) c.requires in
    let count = c.blocks_of_size-count.ensures ∙ ap (blocks_of_size c.args.block) (bytes_as c.args.block c.stream_blocks-kept.result c.args.streams.now c.stream_blocks-kept.ensures) in
    omega (arith, count, c.stream_blocks-kept.ensures, room.last)

pub returns-clause-image : goal.returns-clause-image
returns-clause-image c =
    let streams = present c.args.streams.now in
    let bytes = bytes_as c.args.block c.stream_blocks-kept.result c.args.streams.now c.stream_blocks-kept.ensures in
    let count = c.blocks_of_size-count.ensures ∙ ap (blocks_of_size c.args.block) bytes in
    let addr = c.given_block-map_addr.ensures ∙ addr_as c.args.block c.stream_blocks-kept.result c.blocks_of_size-count.result streams c.stream_blocks-kept.ensures count in
    image_as c.args.block (4 + 4 * length c.args.streams.now + 4 * c.stream_blocks-kept.result) c.given_block-map_addr.result streams c.in_ok-directory.directory c.in_ok-free.free bytes addr c.in_ok-directory.ensures c.in_ok-free.ensures

pub returns-clause-listed : goal.returns-clause-listed
returns-clause-listed c =
    let count = c.blocks_of_size-count.ensures ∙ ap (blocks_of_size c.args.block) (bytes_as c.args.block c.stream_blocks-kept.result c.args.streams.now c.stream_blocks-kept.ensures) in
    c.in_ok-listed.ensures ∙ listed_as c.args.block c.stream_blocks-kept.result c.blocks_of_size-count.result (present c.args.streams.now) c.stream_blocks-kept.ensures count
