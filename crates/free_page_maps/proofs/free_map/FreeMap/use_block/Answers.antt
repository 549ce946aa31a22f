use Rattle.std.proofs.Common.{◌≡◌, ap, ◌∙◌, arith}
use Rattle.std.proofs.lemmas.Grind.{common_steps}
use Rattle.std.proofs.lemmas.List.{with_items_is}
use Rattle.std.specs.Vec.{with_items}
use Rattle.msf_blocks.specs.Bits.{has_bit}
use Rattle.free_page_maps.specs.FreeBlocks.{below_where, without}
use Rattle.free_page_maps.proofs.Listing.{below_where-cleared}
use Rattle.free_page_maps.proofs.free_map.FreeMap.use_block.Goals as goal

pub returns : goal.returns
returns c =
    let m = c.self.inside in
    let new = c.clear_bit.new.bits in
    let items : (with_items m.bits new).items ≡ new = grind (arith, common_steps, with_items_is) in
    let listed = below_where-cleared m.blocks c.args.b m.bits.items new c.clear_bit.ensures.cleared (λ k ne. c.clear_bit.ensures.others k ne ∙ ap (λ bits. has_bit bits k) c.deref_mut.ensures.value) in
    ap (λ bits. record { blocks = m.blocks; free = below_where m.blocks (has_bit bits) }) items ∙ ap (λ free. record { blocks = m.blocks; free = free }) listed ∙ ap (λ v. without v c.args.b) c.self.view_is
