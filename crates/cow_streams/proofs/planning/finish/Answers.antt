use Rattle.std.proofs.Common.{◌++◌, ◌∷◌, not, eqb, All, sym, ap, subst, ◌∙◌}
use Rattle.std.specs.List.{list_any}
use Rattle.msf_blocks.specs.Blocks.{IsReserved}
use Rattle.free_page_maps.specs.FreeBlocks.{FreeBlocks}
use Rattle.free_page_maps.specs.MapText.{map_text}
use Rattle.free_page_maps.proofs.Listing.{unreserved_where-unreserved}
use Rattle.msf_image.specs.Reads.{used_blocks}
use Rattle.cow_streams.specs.Planned.{Planned, free_after, map_writes}
use Rattle.cow_streams.proofs.planning.finish.Goals as goal

pub scatter-requires-clause-unreserved : goal.scatter-requires-clause-unreserved
scatter-requires-clause-unreserved c =
    let s = c.args.head in
    let is = c.in_ok-free.ensures ∙ ap (free_after s c.args.listed.now) c.streams.ensures in
    subst (λ (m : FreeBlocks). All (λ b. ¬ IsReserved s.block b) m.free) (sym is)
    (unreserved_where-unreserved s.block s.blocks (λ b. not (list_any (λ x. eqb x b) (used_blocks (s.map_addr ∷ c.args.listed.now) c.args.directory))))

pub returns-clause-writes : goal.returns-clause-writes
returns-clause-writes c =
    let s = c.args.head in
    let is = c.in_ok-free.ensures ∙ ap (free_after s c.args.listed.now) c.streams.ensures in
    ap (λ (p : Planned). p.writes) c.new.ensures ∙ c.in_ok-put_map.ensures ∙ ap (λ t. c.args.writes.items ++ map_writes s t) (c.deref.ensures.value ∙ c.in_ok-text.ensures.text ∙ ap (map_text s.block) is)
