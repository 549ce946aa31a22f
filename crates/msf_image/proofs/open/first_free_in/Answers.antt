use Rattle.std.proofs.Common.{ap, sym, find, ◌∙◌}
use Rattle.free_page_maps.specs.FreeBlocks.{is_free}
use Rattle.stream_directory.specs.Directory.{blocks_in}
use Rattle.msf_image.proofs.Searching.{find_here, find_more}
use Rattle.msf_image.proofs.open.first_free_in.Goals as goal

pub returns-in-Some : goal.returns-in-Some
returns-in-Some c =
    let found = ap (find (is_free c.args.free.now)) (sym c.blocks_in.ensures) ∙ sym c.first_free.ensures ∙ c.in-Some.is in
    sym (find_here (is_free c.args.free.now) blocks_in c.args.streams.now c.loop-stream.stream-index c.stream-item.result c.in-Some.b c.loop-stream-test.true c.stream-item.is c.loop-stream.invariant found)

pub loop-stream-preserved : goal.loop-stream-preserved
loop-stream-preserved c =
    let none = ap (find (is_free c.args.free.now)) (sym c.blocks_in.ensures) ∙ sym c.first_free.ensures ∙ c.in_default.is in
    find_more (is_free c.args.free.now) blocks_in c.args.streams.now c.loop-stream.stream-index c.stream-item.result c.loop-stream-test.true c.stream-item.is c.loop-stream.invariant none
