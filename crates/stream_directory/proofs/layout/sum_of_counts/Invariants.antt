use Rattle.std.proofs.Common.{◌≡◌, ◌≤◌, ◌*◌, ◌^◌, take}
use Rattle.std.specs.List.{sum_by}
use Rattle.stream_directory.specs.Directory.{block_count}
use Rattle.stream_directory.proofs.layout.sum_of_counts.Given as goal

abbrev pub invariant-loop-size : goal.invariant-loop-size
invariant-loop-size l = (l.sum ≡ sum_by (block_count l.block_size) (take l.size-index l.sizes)) × (l.sum ≤ 2 ^ 32 * l.size-index)
