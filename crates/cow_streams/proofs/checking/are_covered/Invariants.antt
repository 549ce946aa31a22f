use Rattle.std.proofs.Common.{◌≤◌, ◌<◌, ℕ}
use Rattle.stream_directory.specs.Directory.{stream_at}
use Rattle.cow_streams.specs.Edits.{IsCovered}
use Rattle.cow_streams.proofs.checking.are_covered.Given as goal

abbrev pub invariant-loop-i : goal.invariant-loop-i
invariant-loop-i l = (j : ℕ) → 1 ≤ j → j < l.i → IsCovered l.block_size l.edits j (stream_at l.streams j)
