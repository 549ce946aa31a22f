use Rattle.std.proofs.Common.{length, arith}
use Rattle.chain_index.proofs.Heads.{heads_for-most}
use Rattle.chain_index.proofs.chains.Chains.heads.Goals as goal

pub overflow_cast-result : goal.overflow_cast-result
overflow_cast-result c =
    omega (arith, c.len.ensures, c.self.inside.heads.ok.0, c.self.invariant.0.counted, heads_for-most (length c.self.inside.hashes.items))
