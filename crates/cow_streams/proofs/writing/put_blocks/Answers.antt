use Rattle.std.proofs.Common.{◌≡◌, ◌++◌, [], ◌∷◌, drop, get_or, length, map, sym, ap, ◌∙◌, arith}
use Rattle.std.specs.List.{range_with_len}
use Rattle.std.proofs.lemmas.List.FromFn.{length-map-range_with_len, map-range_with_len_more}
use Rattle.msf_image.specs.Packed.{block_of}
use Rattle.cow_streams.specs.Planned.{Write, writes_to}
use Rattle.cow_streams.proofs.LayoutLoops.{text_count, text_step}
use Rattle.cow_streams.proofs.writing.put_blocks.Goals as goal

pub number_at-b-requires : goal.number_at-b-requires
number_at-b-requires c =
    let f = block_of c.args.block_size c.args.bytes.now in
    let xs = map f (range_with_len 0 c.loop-k.k) in
    let count = text_count xs (drop (length c.args.writes.now.items) c.args.given.now) c.args.writes.now.items c.loop-k.writes.items c.loop-k.invariant in
    omega (arith, count, length-map-range_with_len f 0 c.loop-k.k, c.requires.enough, c.loop-k-test.true, c.blocks_of_size-count.ensures, c.len.ensures)

pub loop-k-preserved : goal.loop-k-preserved
loop-k-preserved c =
    let size = c.args.block_size in
    let bytes = c.args.bytes.now in
    let given = c.args.given.now in
    let old = c.args.writes.now.items in
    let now = c.loop-k.writes.items in
    let w = length old in
    let k = c.loop-k.k in
    let b = c.number_at-b.result in
    let f = block_of size bytes in
    let xs = map f (range_with_len 0 k) in
    let count = text_count xs (drop w given) old now c.loop-k.invariant in
    let place : c.len.result ≡ length now = omega (arith, c.len.ensures) in
    let made : c.new.result ≡ record { block = b; bytes = f k } = c.new.ensures ∙ ap (λ x. record { block = b; bytes = x }) c.in_ok-block.ensures in
    c.in_ok-push.ensures.items ∙ ap (λ (x : Write). now ++ x ∷ []) made ∙ text_step xs (f k) given w (length now) b old now count c.loop-k.invariant (c.number_at-b.ensures ∙ ap (λ m. get_or given m 0) place)
    ∙ ap (λ all. old ++ writes_to all (drop w given)) (sym (map-range_with_len_more f 0 k k (omega arith)))
