use Rattle.std.proofs.Common.{◌≡◌, drop}
use Rattle.cow_streams.specs.Edits.{len_after}
use Rattle.cow_streams.proofs.edits.len_after.Given as goal

abbrev pub invariant-loop-e : goal.invariant-loop-e
invariant-loop-e l = len_after (drop l.e-index l.edits) l.stream l.len ≡ len_after l.edits l.stream l.len
