use Rattle.std.proofs.Common.{ap, sym, ◌∙◌, arith}
use Rattle.std.proofs.lemmas.Bool.{le-ltb}
use Rattle.msf_blocks.specs.Bits.{has_bit}
use Rattle.free_page_maps.specs.FreeBlocks.{is_free}
use Rattle.free_page_maps.proofs.Listing.{is_free-below_where, is_free-past}
use Rattle.free_page_maps.proofs.free_map.FreeMap.is_free.Goals as goal

pub returns-then-b-self : goal.returns-then-b-self
returns-then-b-self c =
    let m = c.self.inside in
    c.has_bit.ensures ∙ ap (λ bits. has_bit bits c.args.b) c.deref.ensures.value ∙ sym (is_free-below_where m.blocks (has_bit m.bits.items) c.args.b (omega arith)) ∙ ap (λ v. is_free v c.args.b) c.self.view_is

pub returns-else-b-self : goal.returns-else-b-self
returns-else-b-self c =
    let m = c.self.inside in
    le-ltb c.args.b m.blocks (omega arith) ∙ sym (is_free-past m.blocks (has_bit m.bits.items) c.args.b (omega arith)) ∙ ap (λ v. is_free v c.args.b) c.self.view_is
