use Rattle.std.proofs.Common.{ℕ, List, ◌++◌, sym, ap, ◌∙◌}
use Rattle.msf_blocks.specs.Superblock.{superblock_text}
use Rattle.msf_image.specs.Packed.{file_block, file_of}
use Rattle.msf_image.proofs.PackedLoops.{file-more}
use Rattle.msf_image.proofs.packed.file_of.Goals as goal

pub loop-b-preserved : goal.loop-b-preserved
loop-b-preserved c =
    let s = c.args.head.now in
    let block = λ (text : List ℕ). file_block s.block text c.args.map.now c.args.content.now c.loop-b.b in
    c.in_ok-put_file_block.ensures ∙ ap (λ xs. xs ++ block c.write_super-text.result) c.loop-b.invariant ∙ ap (λ text. file_of s.block (superblock_text s) c.args.map.now c.args.content.now c.loop-b.b ++ block text) c.write_super-text.ensures
    ∙ sym (file-more s.block (superblock_text s) c.args.map.now c.args.content.now c.loop-b.b)
