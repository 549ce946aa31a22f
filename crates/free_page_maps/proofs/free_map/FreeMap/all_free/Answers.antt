use Rattle.std.proofs.Common.{◌≡◌, ◌≤◌, ◌*◌, replicate, ap, subst, ◌∙◌, arith}
use Rattle.std.proofs.lemmas.Grind.{common_steps}
use Rattle.std.specs.Prelude.{IfOk}
use Rattle.free_page_maps.specs.FreeBlocks.{free_in}
use Rattle.free_page_maps.proofs.Listing.{all_free-is}
use Rattle.free_page_maps.proofs.free_map.FreeMap.all_free.Goals as goal

pub returns-clause-free : goal.returns-clause-free
returns-clause-free c =
    let bytes = c.div_ceil.result in
    let enough : c.args.blocks ≤ 8 * bytes = grind (arith, common_steps) in
    let ones : c.deref.result.now ≡ replicate bytes 255 = grind (arith, common_steps) in
    subst (λ v. IfOk c.gather.result (λ m. m ≡ v)) (ap (free_in c.args.block_size c.args.blocks) ones ∙ all_free-is c.args.block_size c.args.blocks bytes enough) c.gather.ensures.free
