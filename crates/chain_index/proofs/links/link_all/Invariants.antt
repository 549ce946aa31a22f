use Rattle.chain_index.specs.Chains.{AreLinked}
use Rattle.chain_index.proofs.links.link_all.Given as goal

abbrev pub invariant-loop-number : goal.invariant-loop-number
invariant-loop-number l = AreLinked l.hashes l.heads l.nexts l.number
