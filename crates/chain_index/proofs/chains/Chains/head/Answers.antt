use Rattle.std.proofs.Common.{◌≡◌, ◌<◌, ℕ, List, length, ap, subst, ◌∙◌, arith}
use Rattle.std.specs.List.{slice_get}
use Rattle.chain_index.specs.Chains.{bucket_in, chain_of, heads_for}
use Rattle.chain_index.proofs.Heads.{heads_for-least}
use Rattle.chain_index.proofs.Linking.{head_is}
use Rattle.chain_index.proofs.Walk.{whole_chain}
use Rattle.chain_index.proofs.chains.Chains.head.Goals as goal

pub nonzero_rem-hash : goal.nonzero_rem-hash
nonzero_rem-hash c =
    let inside = c.self.inside in
    omega (arith, c.len.ensures, inside.heads.ok.0, c.self.invariant.0.counted, heads_for-least (length inside.hashes.items))

pub index-requires : goal.index-requires
index-requires c =
    let inside = c.self.inside in
    let some : 0 < c.len.result = omega (arith, c.len.ensures, inside.heads.ok.0, c.self.invariant.0.counted, heads_for-least (length inside.hashes.items)) in
    omega (arith, c.len.ensures)

pub returns : goal.returns
returns c =
    let inside = c.self.inside in
    let counted : c.len.result ≡ length inside.heads.items = c.len.ensures ∙ inside.heads.ok.0 in
    let xs = c.args.self.now.hashes in
    let first =
    subst (λ (ys : List ℕ). c.index.result.now ≡ slice_get (chain_of ys (bucket_in ys c.args.hash)) 0) (ap (λ v. v.hashes) c.self.view_is)
    (head_is inside.hashes.items inside.heads.items inside.nexts.items inside.room c.args.hash c.len.result c.index.result.now c.self.invariant.0 counted c.index.ensures) in
    record { first = first; whole = whole_chain xs (heads_for (length xs)) (bucket_in xs c.args.hash) (length xs) c.index.result.now first }
