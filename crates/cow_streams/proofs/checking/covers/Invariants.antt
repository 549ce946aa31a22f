use Rattle.std.proofs.Common.{◌≡◌, ◌≤◌, ◌<◌, ◌*◌, ℕ, true}
use Rattle.std.specs.List.{list_any}
use Rattle.cow_streams.specs.Edits.{has_byte}
use Rattle.cow_streams.proofs.checking.covers.Given as goal

abbrev pub invariant-loop-k : goal.invariant-loop-k
invariant-loop-k l = (j : ℕ) → l.first ≤ j → j < l.k → list_any (has_byte l.i (j * l.block_size)) l.edits ≡ true
