use Rattle.std.proofs.Common.{◌+◌, length, arith}
use Rattle.chain_index.proofs.Heads.{heads_for-mono}
use Rattle.chain_index.proofs.chains.Chains.reserve.Goals as goal

pub overflow_sub-heads : goal.overflow_sub-heads
overflow_sub-heads c =
    let inside = c.self.inside in
    let n = length inside.hashes.items in
    let grown = heads_for-mono n (c.len.result + c.args.n) (omega (arith, c.len.ensures, inside.hashes.ok.0)) in
    omega (arith, grown, c.heads_for-heads.ensures, c.len-2.ensures, inside.heads.ok.0, c.self.invariant.0.counted)
