use Rattle.std.proofs.Common.{◌+◌, ◌++◌, [], ◌∷◌, length, take, Some, sym, ap, ◌∙◌, arith}
use Rattle.msf_blocks.specs.Blocks.{blocks_of_size}
use Rattle.msf_image.specs.Packed.{given_from, present, stream_blocks, stream_from, streams_from}
use Rattle.msf_image.proofs.PackedLoops.{all_streams, blocks-more, blocks-take, few_streams, has_room, length-present, one_stream, size_at, sizes_of, streams-more}
use Rattle.msf_image.proofs.packed.directory_of.Goals as goal

pub overflow_cast-size : goal.overflow_cast-size
overflow_cast-size c =
    let fits = size_at c.args.streams.now c.loop-stream.stream-index c.stream-item.result c.loop-stream-test.true c.stream-item.is (sizes_of c.args.streams.now c.requires.sizes) in omega (arith, fits, ap length c.bytes.ensures)

pub given_from-requires-clause-few : goal.given_from-requires-clause-few
given_from-requires-clause-few c =
    let more = blocks-more c.args.block c.args.streams.now c.loop-stream.stream-index c.stream-item.result c.loop-stream-test.true c.stream-item.is in
    let least = blocks-take c.args.block c.args.streams.now (c.loop-stream.stream-index + 1) in
    let count = c.blocks_of_size-count.ensures ∙ ap (blocks_of_size c.args.block) (ap length c.bytes.ensures) in
    let room = has_room c.args.block (present c.args.streams.now) c.requires in
    omega (arith, more, least, count, room.kept, c.loop-stream.invariant.1)

pub new-requires : goal.new-requires
new-requires c =
    let fits = size_at c.args.streams.now c.loop-stream.stream-index c.stream-item.result c.loop-stream-test.true c.stream-item.is (sizes_of c.args.streams.now c.requires.sizes) in omega (arith, fits, ap length c.bytes.ensures)

pub overflow_add-next : goal.overflow_add-next
overflow_add-next c =
    let more = blocks-more c.args.block c.args.streams.now c.loop-stream.stream-index c.stream-item.result c.loop-stream-test.true c.stream-item.is in
    let least = blocks-take c.args.block c.args.streams.now (c.loop-stream.stream-index + 1) in
    let count = c.blocks_of_size-count.ensures ∙ ap (blocks_of_size c.args.block) (ap length c.bytes.ensures) in
    let room = has_room c.args.block (present c.args.streams.now) c.requires in
    omega (arith, more, least, count, room.kept, c.loop-stream.invariant.1)

pub loop-stream-preserved : goal.loop-stream-preserved
loop-stream-preserved c =
    let size = c.args.block in
    let xs = c.args.streams.now in
    let i = c.loop-stream.stream-index in
    let before = streams_from size 0 (present (take i xs)) in
    let one = one_stream size c.loop-stream.next c.bytes.result.now c.new.result c.in_ok-blocks.blocks.items c.new.ensures (c.in_ok-blocks.ensures ∙ ap (given_from size c.loop-stream.next) c.blocks_of_size-count.ensures) in
    let count = c.blocks_of_size-count.ensures ∙ ap (λ x. blocks_of_size size (length x)) c.bytes.ensures in (
      c.in_ok-push.ensures.items ∙ ap (λ ys. ys ++ Some c.new.result ∷ []) c.loop-stream.invariant.0 ∙ ap (λ y. before ++ y ∷ []) one ∙ ap (λ x. before ++ stream_from size c.loop-stream.next (Some x) ∷ []) c.bytes.ensures
          ∙ ap (λ k. before ++ stream_from size k (Some c.stream-item.result) ∷ []) c.loop-stream.invariant.1 ∙ sym (streams-more size xs i c.stream-item.result c.loop-stream-test.true c.stream-item.is),
      ap (λ n. n + c.blocks_of_size-count.result) c.loop-stream.invariant.1 ∙ ap (λ n. stream_blocks size (present (take i xs)) + n) count
          ∙ sym (blocks-more size xs i c.stream-item.result c.loop-stream-test.true c.stream-item.is),
    )

pub new-requires-2 : goal.new-requires-2
new-requires-2 c =
    omega (arith, ap length c.loop-stream.invariant.0, few_streams c.args.block c.args.streams.now c.loop-stream.stream-index, length-present c.args.streams.now, c.requires.few)

pub returns : goal.returns
returns c = c.new-2.ensures ∙ c.loop-stream.invariant.0 ∙ all_streams c.args.block c.args.streams.now c.loop-stream.stream-index c.loop-stream-test.false
