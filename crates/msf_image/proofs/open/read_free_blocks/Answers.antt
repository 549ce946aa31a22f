use Rattle.std.proofs.Common.{◌∙◌}
use Rattle.msf_image.proofs.Directories.{free_as, free_inside, free_rising}
use Rattle.msf_image.proofs.open.read_free_blocks.Goals as goal

pub returns-clause-reads : goal.returns-clause-reads
returns-clause-reads g c = λ tells.
    free_as c.args.head.now _ _ _ _ c.in_ok-gather.ensures.free (c.deref-2.ensures.value ∙ c.in_ok-maps.ensures.bytes tells) (c.deref.ensures.value ∙ c.in_ok-blocks.ensures.blocks)

pub returns-clause-inside : goal.returns-clause-inside
returns-clause-inside g c = free_inside c.args.head.now.block c.args.head.now.blocks _ _ c.in_ok-gather.ensures.free

pub returns-clause-rising : goal.returns-clause-rising
returns-clause-rising g c = free_rising c.args.head.now.block c.args.head.now.blocks _ _ c.in_ok-gather.ensures.free
