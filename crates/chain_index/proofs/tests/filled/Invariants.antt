use Rattle.std.proofs.Common.{◌≡◌, length}
use Rattle.chain_index.proofs.tests.filled.Given as goal

abbrev pub invariant-loop-number : goal.invariant-loop-number
invariant-loop-number l = length l.chains.hashes ≡ l.number
