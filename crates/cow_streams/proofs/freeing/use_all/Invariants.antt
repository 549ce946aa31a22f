use Rattle.std.proofs.Common.{◌≡◌, take}
use Rattle.cow_streams.specs.Freeing.{without_all}
use Rattle.cow_streams.proofs.freeing.use_all.Given as goal

abbrev pub invariant-loop-b : goal.invariant-loop-b
invariant-loop-b l = record {
  now : l.free ≡ without_all l.fn.free (take l.b-index l.blocks);
  blocks : l.free.blocks ≡ l.fn.free.blocks;
}
