use Rattle.std.proofs.Common.{rules}
use Rattle.msf_image.proofs.Moments.{only_reads_on}
use Rattle.msf_image.proofs.Joining.{blocks_more}
use Rattle.msf_image.proofs.blocks.read_blocks.Goals as goal

pub loop-b-preserved : goal.loop-b-preserved
loop-b-preserved g c =
    let now = c.loop-b.invariant in
    record {
      len = search rules;
      bytes = λ tells. blocks_more c.args.block_size _ _ c.args.blocks.now c.loop-b.b-index c.loop-b.bytes.items c.read_block.new.bytes.items c.loop-b-test.true (now.bytes tells) now.only_reads.seen (c.in_ok-read_block.ensures.bytes tells);
      only_reads = only_reads_on g.D.Device g.met.D.Device.counts_now _ _ _ now.only_reads c.read_block.ensures.only_reads;
    }

pub returns-in_err-read_block-clause-only_reads : goal.returns-in_err-read_block-clause-only_reads
returns-in_err-read_block-clause-only_reads g c = only_reads_on g.D.Device g.met.D.Device.counts_now _ _ _ c.loop-b.invariant.only_reads c.read_block.ensures.only_reads
