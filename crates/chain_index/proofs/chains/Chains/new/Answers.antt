use Rattle.std.proofs.Common.{refl, arith}
use Rattle.chain_index.proofs.Linking.{AreChains-none, heads_for-none, resized_from_none}
use Rattle.chain_index.proofs.chains.Chains.new.Goals as goal

pub invariant_of-result : goal.invariant_of-result
invariant_of-result c =
    let old = c.new-heads.result in
    let new = c.resize.new.self in (
      AreChains-none 4096 new.items c.new-2.result.items c.new.result.items refl c.new.ensures.items c.new-2.ensures.items
          (resized_from_none 4096 old.len old.items new.items c.new-heads.ensures.items c.new-heads.ensures.len c.in_ok-resize.ensures.items),
      omega arith,
      omega arith,
      omega (arith, heads_for-none, new.ok.1, c.in_ok-resize.ensures.len),
    )
