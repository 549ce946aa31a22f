use Rattle.std.proofs.Common.{length, sym, ap, ◌∙◌}
use Rattle.msf_blocks.specs.Blocks.{blocks_of_size}
use Rattle.cow_streams.specs.Edits.{len_after}
use Rattle.cow_streams.specs.Layout.{layout_of, parts_in}
use Rattle.cow_streams.proofs.LayoutLoops.{length_parts_of}
use Rattle.cow_streams.proofs.counting.blocks_of.Goals as goal

pub returns-in-Some : goal.returns-in-Some
returns-in-Some c =
    let size = c.args.block_size in
    c.blocks_of_size.ensures ∙ ap (blocks_of_size size) (c.len_after.ensures ∙ ap (len_after c.args.edits.now c.args.i) c.size.ensures.size) ∙ sym (length_parts_of size c.args.edits.now c.args.i c.in-Some.s)
    ∙ ap (λ x. length (parts_in (layout_of size c.args.edits.now c.args.i x))) (sym c.in-Some.is)
