use Rattle.std.proofs.Common.{◌≡◌, ◌*◌, All, ap, sym, subst, ◌∙◌, arith}
use Rattle.msf_blocks.specs.Blocks.{IsReserved}
use Rattle.msf_blocks.proofs.Sizes.{IsBlockSize-ge}
use Rattle.free_page_maps.specs.FreeBlocks.{free_in}
use Rattle.free_page_maps.specs.MapText.{map_text}
use Rattle.free_page_maps.proofs.MapTexts.{padded_text, text_and_again}
use Rattle.free_page_maps.proofs.free_map.FreeMap.scatter.Goals as goal

pub returns-clause-text : goal.returns-clause-text
returns-clause-text c =
    let m = c.self.inside in
    let size = c.args.block_size in
    let unreserved = subst (λ m. All (λ b. ¬ IsReserved size b) m.free) (sym c.self.view_is) c.requires.unreserved in
    let bits = subst (λ bits. c.in_ok-maps.maps.items ≡ padded_text m.blocks bits (c.map_blocks.result * size)) c.deref.ensures.value c.in_ok-maps.ensures in
    let is = subst (λ n. c.in_ok-maps.maps.items ≡ padded_text m.blocks m.bits.items (n * size)) c.map_blocks.ensures bits in
    (text_and_again size m.blocks m.bits.items c.in_ok-maps.maps.items (omega (arith, IsBlockSize-ge size c.requires.size)) unreserved is).0 ∙ ap (map_text size) c.self.view_is

pub returns-clause-again : goal.returns-clause-again
returns-clause-again c =
    let m = c.self.inside in
    let size = c.args.block_size in
    let unreserved = subst (λ m. All (λ b. ¬ IsReserved size b) m.free) (sym c.self.view_is) c.requires.unreserved in
    let bits = subst (λ bits. c.in_ok-maps.maps.items ≡ padded_text m.blocks bits (c.map_blocks.result * size)) c.deref.ensures.value c.in_ok-maps.ensures in
    let is = subst (λ n. c.in_ok-maps.maps.items ≡ padded_text m.blocks m.bits.items (n * size)) c.map_blocks.ensures bits in
    let again = (text_and_again size m.blocks m.bits.items c.in_ok-maps.maps.items (omega (arith, IsBlockSize-ge size c.requires.size)) unreserved is).1 in
    ap (λ v. free_in size v.blocks c.in_ok-maps.maps.items) (sym c.self.view_is) ∙ again ∙ c.self.view_is
