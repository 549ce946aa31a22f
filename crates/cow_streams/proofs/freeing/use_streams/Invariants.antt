use Rattle.std.proofs.Common.{◌≡◌, take}
use Rattle.std.specs.List.{flat_map}
use Rattle.stream_directory.specs.Directory.{blocks_in}
use Rattle.cow_streams.specs.Freeing.{without_all}
use Rattle.cow_streams.proofs.freeing.use_streams.Given as goal

abbrev pub invariant-loop-stream : goal.invariant-loop-stream
invariant-loop-stream l = record {
  now : l.free ≡ without_all l.fn.free (flat_map blocks_in (take l.stream-index l.streams));
  blocks : l.free.blocks ≡ l.fn.free.blocks;
}
