use Rattle.std.proofs.Common.{◌≤◌, ◌<◌, ◌+◌, ◌++◌, [], ◌∷◌, drop, length, sym, ap, subst, ◌∙◌, arith}
use Rattle.msf_blocks.specs.Blocks.{blocks_of_size}
use Rattle.cow_streams.specs.Edits.{len_after}
use Rattle.cow_streams.specs.Layout.{numbers, part_at, parts_to, pieces}
use Rattle.cow_streams.specs.Planned.{writes_to}
use Rattle.cow_streams.proofs.LayoutLoops.{enough_parts, numbers_step, parts_to_more, writes_count, writes_step}
use Rattle.cow_streams.proofs.laying.lay_blocks.Goals as goal

pub lay_block-requires-clause-enough : goal.lay_block-requires-clause-enough
lay_block-requires-clause-enough c =
    let size = c.args.block_size in
    let edits = c.args.edits.now in
    let i = c.args.i in
    let blocks = c.args.stream.now.blocks in
    let k = c.loop-k.k in
    let n = blocks_of_size size (len_after edits i c.args.stream.now.size) in
    let is = c.blocks_of_size-count.ensures ∙ ap (blocks_of_size size) (c.len_after.ensures ∙ ap (len_after edits i) c.size.ensures.size) in
    let lt : k < n = omega (arith, c.loop-k-test.true, is) in
    let count = writes_count (parts_to size edits i blocks k) (drop (length c.args.writes.now.items) c.args.given.now) c.args.writes.now.items c.loop-k.writes.items c.loop-k.invariant.writes in
    let more = enough_parts size edits i blocks k n lt in
    let here : length c.loop-k.writes.items + length (pieces (part_at size edits i blocks k ∷ [])) ≤ length c.args.given.now = omega (arith, count, more, c.requires.enough) in
    subst (λ old. length c.loop-k.writes.items + length (pieces (part_at size edits i old k ∷ [])) ≤ length c.args.given.now) (sym c.blocks-in-loop-k.ensures) here

pub loop-k-preserved : goal.loop-k-preserved
loop-k-preserved c =
    let size = c.args.block_size in
    let edits = c.args.edits.now in
    let i = c.args.i in
    let blocks = c.args.stream.now.blocks in
    let k = c.loop-k.k in
    let given = c.args.given.now in
    let old = c.args.writes.now.items in
    let w = length old in
    let n = length c.loop-k.writes.items in
    let ps = parts_to size edits i blocks k in
    let p = part_at size edits i blocks k in
    let now = c.loop-k.invariant in
    let count = writes_count ps (drop w given) old c.loop-k.writes.items now.writes in
    let one = c.in_ok-b.ensures.number ∙ ap (λ bs. numbers (part_at size edits i bs k ∷ []) (drop n given)) c.blocks-in-loop-k.ensures in
    let more = c.in_ok-b.ensures.writes ∙ ap (λ bs. c.loop-k.writes.items ++ writes_to (pieces (part_at size edits i bs k ∷ [])) (drop n given)) c.blocks-in-loop-k.ensures in
    let next = sym (parts_to_more size edits i blocks k) in
    record {
      numbers = c.in_ok-push.ensures.items ∙ numbers_step ps p given w n c.in_ok-b.b c.loop-k.blocks.items count now.numbers one ∙ ap (λ all. numbers all (drop w given)) next;
      writes = writes_step ps (p ∷ []) given w n old c.loop-k.writes.items c.lay_block.new.writes.items count now.writes more ∙ ap (λ all. old ++ writes_to (pieces all) (drop w given)) next;
    }
