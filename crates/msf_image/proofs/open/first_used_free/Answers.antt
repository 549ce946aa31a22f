use Rattle.std.proofs.Common.{refl, sym, ◌∙◌}
use Rattle.free_page_maps.specs.FreeBlocks.{is_free}
use Rattle.msf_image.proofs.Searching.{find_behind, find_front}
use Rattle.msf_image.proofs.open.first_used_free.Goals as goal

pub returns-in-Some : goal.returns-in-Some
returns-in-Some c = sym (find_front (is_free c.args.free.now) c.args.listed.now _ c.in-Some.b (sym c.first_free.ensures ∙ c.in-Some.is))

pub returns-in-None : goal.returns-in-None
returns-in-None c =
    c.first_free_in.ensures ∙ sym (find_behind (is_free c.args.free.now) c.args.listed.now _ _ (sym c.first_free.ensures ∙ c.in-None.is) refl)
