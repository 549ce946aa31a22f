use Rattle.std.proofs.Common.{ℕ, length, sym, ap, ◌∙◌, arith}
use Rattle.std.proofs.lemmas.List.{length-replicate}
use Rattle.names_table.specs.Buckets.{taken}
use Rattle.names_table.proofs.FreeBuckets.{taken-replicate}
use Rattle.names_table.proofs.Leading.{leads_none}
use Rattle.names_table.proofs.Offsets.{length-le}
use Rattle.names_table.proofs.buckets.buckets_of.Goals as goal

pub bucket_count-count-requires : goal.bucket_count-count-requires
bucket_count-count-requires c = omega (arith, c.len.ensures, length-le c.args.names.now, c.requires)

pub put_names-requires-clause-room : goal.put_names-requires-clause-room
put_names-requires-clause-room c =
    let count = c.bucket_count-count.result in
    let zeros = c.deref_mut.ensures.value ∙ c.in_ok-buckets.ensures.items_if_clones_equal (λ y same. same) in
    omega (arith, ap taken zeros, ap length zeros, taken-replicate count, length-replicate {A = ℕ} count 0, c.bucket_count-count.ensures, c.len.ensures)

pub put_names-requires-clause-leads : goal.put_names-requires-clause-leads
put_names-requires-clause-leads c =
    let count = c.bucket_count-count.result in
    let zeros = c.deref_mut.ensures.value ∙ c.in_ok-buckets.ensures.items_if_clones_equal (λ y same. same) in
    let others = c.deref_mut-2.ensures.value ∙ c.in_ok-next.ensures.items_if_clones_equal (λ y same. same) in
    leads_none c.deref_mut.result.now c.deref_mut-2.result.now count zeros (ap length others ∙ sym (ap length zeros))

pub put_names-requires-clause-few : goal.put_names-requires-clause-few
put_names-requires-clause-few c =
    let count = c.bucket_count-count.result in
    let zeros = c.deref_mut.ensures.value ∙ c.in_ok-buckets.ensures.items_if_clones_equal (λ y same. same) in
    omega (arith, ap length zeros, length-replicate {A = ℕ} count 0, c.bucket_count-count.type_inv)
