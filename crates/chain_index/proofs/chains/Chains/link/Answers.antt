use Rattle.std.proofs.Common.{◌≡◌, ◌+◌, ◌++◌, [], ◌∷◌, None, length, ap, ◌∙◌, arith}
use Rattle.std.proofs.lemmas.Grind.{common_steps}
use Rattle.chain_index.proofs.Heads.{heads_for-mono}
use Rattle.chain_index.proofs.Linking.{AreLinked-append}
use Rattle.chain_index.proofs.chains.Chains.link.Goals as goal

pub link_last-requires-clause-room : goal.link_last-requires-clause-room
link_last-requires-clause-room c =
    let inside = c.self.inside in
    let spare = ap (λ v. v.spare) c.self.view_is in
    let grown = heads_for-mono (c.len-number.result + 1) inside.room (omega (arith, spare, c.requires, c.len-number.ensures, inside.hashes.ok.0)) in
    omega (arith, grown, c.self.invariant.3)

pub link_last-requires-clause-before : goal.link_last-requires-clause-before
link_last-requires-clause-before c =
    let inside = c.self.inside in
    let xs : c.deref.result.now ≡ inside.hashes.items ++ c.args.hash ∷ [] = grind (arith, common_steps) in
    let ns : c.deref_mut.result.now ≡ inside.nexts.items ++ None ∷ [] = grind (arith, common_steps) in
    let n : c.len-number.result ≡ length inside.hashes.items = c.len-number.ensures ∙ inside.hashes.ok.0 in
    rw (xs, ns, n) (AreLinked-append inside.hashes.items c.args.hash inside.heads.items inside.nexts.items (length inside.hashes.items) (omega arith) (omega (arith, c.self.invariant.0.long)) c.self.invariant.0.all)
