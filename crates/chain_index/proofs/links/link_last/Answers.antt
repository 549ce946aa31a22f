use Rattle.std.proofs.Common.{◌≤◌, ◌+◌, ◌*◌, ◌^◌, ◌⊎◌, inl, inr, ℕ, Option, None, length, ap, ◌∙◌, arith}
use Rattle.std.specs.List.{length_refill}
use Rattle.std.proofs.lemmas.List.{length-replicate}
use Rattle.chain_index.specs.Chains.{heads_for}
use Rattle.chain_index.proofs.Heads.{heads_for-grows, heads_for-least, heads_for-stays}
use Rattle.chain_index.proofs.links.link_last.Goals as goal
use Rattle.chain_index.proofs.links.link_last.Goals.{else-len-number-via-then-len-number+else-len-lt-MOST_HEADS, else-len-number-via-else-len-number}

pub widen-requires : goal.widen-requires
widen-requires c =
    let e = heads_for-grows c.args.number (omega (arith, c.args.heads.now.ok.0)) (omega (arith, c.args.heads.now.ok.0)) in
    omega (arith, e)

pub link_all-requires-clause-some : goal.link_all-requires-clause-some
link_all-requires-clause-some c =
    let most = heads_for-least c.args.number in
    omega (arith, most, ap length c.widen.ensures.empty, length-replicate {A = Option ℕ} (2 * length c.args.heads.now.items) None, ap length c.deref_mut.ensures.value)

pub returns-then-len-lt-MOST_HEADS-clause-counted : goal.returns-then-len-lt-MOST_HEADS-clause-counted
returns-then-len-lt-MOST_HEADS-clause-counted c =
    let e = heads_for-grows c.args.number (omega (arith, c.args.heads.now.ok.0)) (omega (arith, c.args.heads.now.ok.0)) in
    let kept = length_refill c.widen.new.heads.len c.widen.new.heads.items c.link_all.new.heads c.widen.new.heads.ok.0 in
    let twice = ap length c.widen.ensures.empty ∙ length-replicate {A = Option ℕ} (2 * length c.args.heads.now.items) None in
    omega (arith, e, kept, twice, c.widen.new.heads.ok.0)

pub returns-else-len-number-clause-counted : goal.returns-else-len-number-clause-counted
returns-else-len-number-clause-counted c =
    let old = c.args.heads.now in
    let either : (c.args.number + 1 ≤ heads_for c.args.number) ⊎ (2 ^ 20 ≤ heads_for c.args.number) =
    elim c.else-len-number.branch [
      | else-len-number-via-then-len-number+else-len-lt-MOST_HEADS w ↦ inr (omega (arith, old.ok.0))
      | else-len-number-via-else-len-number w ↦ inl (omega (arith, old.ok.0))
    ] in
    let kept = length_refill old.len old.items c.link_one.new.heads old.ok.0 in
    omega (arith, heads_for-stays c.args.number either, kept, old.ok.0)
