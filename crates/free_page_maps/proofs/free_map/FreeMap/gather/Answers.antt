use Rattle.std.proofs.Common.{◌≡◌, ◌≤◌, ◌*◌, ◌&&◌, not, ℕ, take, All, ap, sym, subst, ◌∙◌, arith}
use Rattle.std.proofs.lemmas.Grind.{common_steps}
use Rattle.std.proofs.lemmas.List.{with_items_is}
use Rattle.std.specs.Vec.{with_items}
use Rattle.msf_blocks.specs.Bits.{has_bit}
use Rattle.msf_blocks.specs.Blocks.{IsReserved, is_reserved}
use Rattle.free_page_maps.specs.FreeBlocks.{below_where, free_in}
use Rattle.free_page_maps.proofs.Listing.{unreserved_where-unreserved}
use Rattle.free_page_maps.proofs.MapTexts.{free_in-gathered}
use Rattle.free_page_maps.proofs.free_map.FreeMap.gather.Goals as goal

told : (c : goal.After-bits-3-1) → record { blocks = c.args.blocks; free = below_where c.args.blocks (has_bit (with_items c.in_ok-bits.bits c.clear_reserved.new.bits).items) } ≡ free_in c.args.block_size c.args.blocks c.args.maps.now
told c =
    let kept = c.clear_reserved.new.bits in
    let bytes = c.div_ceil-bytes.result in
    let items : (with_items c.in_ok-bits.bits kept).items ≡ kept = grind (arith, common_steps, with_items_is) in
    let enough : c.args.blocks ≤ 8 * bytes = grind (arith, common_steps) in
    let front : c.deref_mut.result.now ≡ take bytes c.args.maps.now = c.deref_mut.ensures.value ∙ c.in_ok-bits.ensures.items in
    let bits : (b : ℕ) → has_bit kept b ≡ (not (is_reserved c.args.block_size b) && has_bit (take bytes c.args.maps.now) b) =
    λ b. c.clear_reserved.ensures b ∙ ap (λ xs. not (is_reserved c.args.block_size b) && has_bit xs b) front in
    rw items (free_in-gathered c.args.block_size c.args.blocks bytes c.args.maps.now kept enough bits)

pub returns-clause-free : goal.returns-clause-free
returns-clause-free c = told c

pub returns-clause-unreserved : goal.returns-clause-unreserved
returns-clause-unreserved c =
    subst (λ m. All (λ b. ¬ IsReserved c.args.block_size b) m.free) (sym (told c)) (unreserved_where-unreserved c.args.block_size c.args.blocks (has_bit c.args.maps.now))
