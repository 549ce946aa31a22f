use Rattle.std.proofs.Common.{◌≡◌, take}
use Rattle.cow_streams.proofs.Loops.{IsSearched}
use Rattle.cow_streams.proofs.giving.lowest.Given as goal

abbrev pub invariant-loop-i : goal.invariant-loop-i
invariant-loop-i l = record {
  given : l.given.items ≡ take l.i l.free.free;
  searched : IsSearched l.free.free l.i l.from;
}
