use Rattle.std.proofs.Common.{◌≡◌, ◌<◌, ◌+◌, ℕ, Option, Some, cond, length, IfSome, ap, subst, sym, ◌∙◌, arith}
use Rattle.chain_index.specs.Chains.{heads_for}
use Rattle.chain_index.proofs.Walk.{past}
use Rattle.record_table.specs.Table.{place_of}
use Rattle.record_table.proofs.Finding.{IsMid, first_at, least_all, least_from, left, left_first, mid_first, mid_on, place_of-bound}
use Rattle.record_table.proofs.lookup.find_in.Goals as goal
use Rattle.record_table.proofs.lookup.find_in.Goals.{then-is_at, else-is_at}

pub loop-at-init : goal.loop-at-init
loop-at-init g c =
    let records = c.args.records.now in
    let r = c.args.bytes.now in
    let at = c.head-at.result in
    let is = first_at records r c.args.chains.now.hashes c.args.hash at c.requires.hashes c.requires.hash c.head-at.ensures.first in
    record {
      mid = mid_first records r (heads_for (length records)) at is;
      cost = omega (arith, left_first records r at is);
    }

pub loop-at-smaller : goal.loop-at-smaller
loop-at-smaller g c =
    let records = c.args.records.now in
    let r = c.args.bytes.now in
    let k = c.in-Some.number in
    let found = c.loop-at.found in
    let mid = subst (λ (a : Option ℕ). IsMid records r (heads_for (length records)) a found) c.in-Some.is c.loop-at.invariant.mid in
    let found-is : c.if-is_at.found ≡ cond c.is_at.result (Some k) found =
    elim c.if-is_at.branch [
      | then-is_at w ↦ w.found-is ∙ sym (ap (λ b. cond b (Some k) found) w.if-is_at.true)
      | else-is_at w ↦ w.found-is ∙ sym (ap (λ b. cond b (Some k) found) w.if-is_at.false)
    ] in
    let on = mid_on records r c.args.chains.now.hashes k found c.if-is_at.found c.next-at.result c.is_at.result c.requires.hashes mid c.is_at.ensures found-is c.next-at.ensures.first in
    let here : past c.loop-at.at ≡ k + 1 = ap past c.in-Some.is in
    omega (arith, on.falls, here)

pub loop-at-preserved : goal.loop-at-preserved
loop-at-preserved g c =
    let records = c.args.records.now in
    let r = c.args.bytes.now in
    let k = c.in-Some.number in
    let found = c.loop-at.found in
    let heads = heads_for (length records) in
    let mid = subst (λ (a : Option ℕ). IsMid records r heads a found) c.in-Some.is c.loop-at.invariant.mid in
    let found-is : c.if-is_at.found ≡ cond c.is_at.result (Some k) found =
    elim c.if-is_at.branch [
      | then-is_at w ↦ w.found-is ∙ sym (ap (λ b. cond b (Some k) found) w.if-is_at.true)
      | else-is_at w ↦ w.found-is ∙ sym (ap (λ b. cond b (Some k) found) w.if-is_at.false)
    ] in
    let on = mid_on records r c.args.chains.now.hashes k found c.if-is_at.found c.next-at.result c.is_at.result c.requires.hashes mid c.is_at.ensures found-is c.next-at.ensures.first in
    let had : left records r heads c.loop-at.at ≡ left records r heads (Some k) = ap (left records r heads) c.in-Some.is in
    record {
      mid = on.mid;
      cost = omega (arith, on.one, had, c.tick.ensures, c.loop-at.invariant.cost);
    }

pub returns-clause-bound : goal.returns-clause-bound
returns-clause-bound g c =
    let records = c.args.records.now in
    let r = c.args.bytes.now in
    let all : c.loop-at.found ≡ place_of records r =
    c.loop-at.invariant.mid.least ∙ ap (λ a. least_from records r (past a)) c.in_default.is ∙ least_all records r in
    subst (λ (o : Option ℕ). IfSome o (λ p. p < length records)) (sym all) (place_of-bound records r)
