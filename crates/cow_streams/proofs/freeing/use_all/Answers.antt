use Rattle.std.proofs.Common.{get_or, sym, ap, ◌∙◌}
use Rattle.free_page_maps.specs.FreeBlocks.{FreeBlocks, without}
use Rattle.cow_streams.proofs.Loops.{without_more}
use Rattle.cow_streams.proofs.freeing.use_all.Goals as goal

pub loop-b-preserved : goal.loop-b-preserved
loop-b-preserved c =
    let i = c.loop-b.b-index in
    let xs = c.args.blocks.now in
    let now = c.loop-b.invariant in
    record {
      now = c.use_block.ensures ∙ ap (λ (m : FreeBlocks). without m (get_or xs i 0)) now.now ∙ sym (without_more c.args.free.now xs i c.loop-b-test.true);
      blocks = ap (λ (m : FreeBlocks). m.blocks) c.use_block.ensures ∙ now.blocks;
    }
