use Rattle.std.proofs.Common.{All}
use Rattle.srv_edge.specs.MemoryLink.{IsFreshLink}
use Rattle.session_pool.proofs.tests.links.Given as goal

abbrev pub invariant-loop-k : goal.invariant-loop-k
invariant-loop-k l = All IsFreshLink l.all.items
