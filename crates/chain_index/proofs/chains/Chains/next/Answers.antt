use Rattle.std.proofs.Common.{◌≡◌, ◌<◌, ℕ, List, length, ap, subst, arith}
use Rattle.std.specs.List.{slice_get, slice_index}
use Rattle.chain_index.specs.Chains.{bucket_in, chain_behind, heads_for}
use Rattle.chain_index.proofs.Linking.{next_is}
use Rattle.chain_index.proofs.Walk.{whole_chain}
use Rattle.chain_index.proofs.chains.Chains.next.Goals as goal

pub returns-clause-whole : goal.returns-clause-whole
returns-clause-whole c =
    let inside = c.self.inside in
    let k = c.args.number in
    let same = ap (λ v. v.hashes) c.self.view_is in
    let there : k < length inside.hashes.items = omega (arith, c.requires, ap length same) in
    let xs = c.args.self.now.hashes in
    let first =
    subst (λ (ys : List ℕ). c.index.result.now ≡ slice_get (chain_behind ys k) 0) same
    (next_is inside.hashes.items inside.heads.items inside.nexts.items inside.room k c.index.result.now c.self.invariant.0 there c.index.ensures) in
    whole_chain xs (heads_for (length xs)) (bucket_in xs (slice_index xs k)) k c.index.result.now first
