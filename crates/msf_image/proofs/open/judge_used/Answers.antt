use Rattle.std.proofs.Common.{find, ap, sym, ◌∙◌}
use Rattle.free_page_maps.specs.FreeBlocks.{is_free}
use Rattle.msf_image.specs.Reads.{used_blocks}
use Rattle.msf_image.proofs.Searching.{none_passes}
use Rattle.msf_image.proofs.open.judge_used.Goals as goal

pub returns-in-None-clause-none_free : goal.returns-in-None-clause-none_free
returns-in-None-clause-none_free c =
    none_passes (is_free c.args.image.free) (used_blocks c.args.listed.now c.args.image.directory) (ap (λ streams. find (is_free c.args.image.free) (used_blocks c.args.listed.now streams)) (sym c.streams.ensures) ∙ sym c.first_used_free.ensures ∙ c.in-None.is)
