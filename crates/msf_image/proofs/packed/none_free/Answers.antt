use Rattle.std.proofs.Common.{◌≡◌, ap, subst, ◌∙◌, ◌+◌, ◌/◌}
use Rattle.std.specs.Prelude.{IfOk}
use Rattle.free_page_maps.specs.FreeBlocks.{free_in}
use Rattle.msf_image.proofs.PackedLoops.{zeros_free}
use Rattle.msf_image.proofs.packed.none_free.Goals as goal

pub returns : goal.returns
returns c =
    let none = ap (free_in c.args.block c.args.blocks) (c.deref.ensures.value ∙ c.in_ok-zeros.ensures.items_if_clones_equal (λ y e. e)) ∙ zeros_free c.args.block c.args.blocks (c.args.blocks / 8 + 1) in
    subst (λ m. IfOk c.gather.result (λ free. free ≡ m)) none c.gather.ensures.free
