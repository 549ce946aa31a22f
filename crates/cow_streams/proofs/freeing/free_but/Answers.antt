use Rattle.std.proofs.Common.{◌<◌, ◌∷◌, All, true, sym, ap, subst, ◌∙◌}
use Rattle.std.specs.List.{flat_map}
use Rattle.free_page_maps.specs.FreeBlocks.{FreeBlocks, unreserved_where, without}
use Rattle.stream_directory.specs.Directory.{blocks_in}
use Rattle.msf_image.specs.Reads.{used_blocks}
use Rattle.cow_streams.specs.Freeing.{without_all}
use Rattle.cow_streams.proofs.Loops.{free_but_is, used_inside, without_all-append, without_all-blocks}
use Rattle.cow_streams.proofs.freeing.free_but.Goals as goal

pub use_block-requires : goal.use_block-requires
use_block-requires c =
    let inside = used_inside (λ b. b < c.args.blocks) c.args.map_addr c.args.listed.now (flat_map blocks_in c.args.streams.now) c.requires.inside in
    let same = ap (λ (m : FreeBlocks). m.blocks) c.in_ok-free.ensures.free in
    subst (λ n. c.args.map_addr < n) (sym same) inside.0

pub use_all-requires : goal.use_all-requires
use_all-requires c =
    let inside = used_inside (λ b. b < c.args.blocks) c.args.map_addr c.args.listed.now (flat_map blocks_in c.args.streams.now) c.requires.inside in
    let same = ap (λ (m : FreeBlocks). m.blocks) (c.use_block.ensures ∙ ap (λ m. without m c.args.map_addr) c.in_ok-free.ensures.free) in
    record { inside = subst (λ n. All (λ b. b < n) c.args.listed.now) (sym same) inside.1 }

pub use_streams-requires : goal.use_streams-requires
use_streams-requires c =
    let inside = used_inside (λ b. b < c.args.blocks) c.args.map_addr c.args.listed.now (flat_map blocks_in c.args.streams.now) c.requires.inside in
    let one = c.use_block.ensures ∙ ap (λ m. without m c.args.map_addr) c.in_ok-free.ensures.free in
    let same = ap (λ (m : FreeBlocks). m.blocks) c.use_all.ensures ∙ without_all-blocks c.use_block.new.self c.args.listed.now ∙ ap (λ (m : FreeBlocks). m.blocks) one in
    record { inside = subst (λ n. All (λ b. b < n) (flat_map blocks_in c.args.streams.now)) (sym same) inside.2 }

pub returns : goal.returns
returns c =
    let m = c.args.map_addr in
    let listed = c.args.listed.now in
    let blocks = flat_map blocks_in c.args.streams.now in
    let all = unreserved_where c.args.block_size c.args.blocks (λ _. true) in
    c.use_streams.ensures ∙ ap (λ f. without_all f blocks) (c.use_all.ensures ∙ ap (λ f. without_all f listed) (c.use_block.ensures ∙ ap (λ f. without f m) c.in_ok-free.ensures.free))
    ∙ sym (without_all-append all (m ∷ listed) blocks) ∙ free_but_is c.args.block_size c.args.blocks (used_blocks (m ∷ listed) c.args.streams.now)
