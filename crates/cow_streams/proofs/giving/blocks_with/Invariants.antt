use Rattle.std.proofs.Common.{◌≡◌, drop}
use Rattle.cow_streams.specs.Supply.{blocks_with}
use Rattle.cow_streams.proofs.giving.blocks_with.Given as goal

abbrev pub invariant-loop-b : goal.invariant-loop-b
invariant-loop-b l = blocks_with l.all (drop l.b-index l.given) ≡ blocks_with l.fn.blocks l.given
