use Rattle.std.proofs.Common.{◌≡◌, ◌*◌, IsTrue, length, take}
use Rattle.srv_edge.specs.Reading.{OnlyReads}
use Rattle.msf_image.specs.Reads.{bytes_of_blocks}
use Rattle.msf_image.proofs.blocks.read_blocks.Given as goal

abbrev pub invariant-loop-b : goal.invariant-loop-b
invariant-loop-b g l = record {
  len : length l.bytes.items ≡ l.b-index * l.block_size;
  bytes : IsTrue g.D.Device.tells → l.bytes.items ≡ bytes_of_blocks l.block_size (g.D.Device.seen l.fn.device) (take l.b-index l.blocks);
  only_reads : OnlyReads g.D.Device l.fn.device l.device;
}
