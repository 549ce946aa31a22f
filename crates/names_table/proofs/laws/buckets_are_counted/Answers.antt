use Rattle.std.proofs.Common.{length, ◌∙◌, arith}
use Rattle.std.proofs.lemmas.List.{length-replicate}
use Rattle.names_table.specs.Buckets.{bucket_count, buckets_of}
use Rattle.names_table.proofs.FreeBuckets.{all_held, taken-replicate}
use Rattle.names_table.proofs.laws.buckets_are_counted.Goals as goal

pub returns-clause-count : goal.returns-clause-count
unfolding buckets_of
returns-clause-count c = λ version names. (all_held version names).size ∙ length-replicate (bucket_count (length names)) 0

pub returns-clause-taken : goal.returns-clause-taken
unfolding buckets_of
returns-clause-taken c = λ version names. omega (arith, (all_held version names).count, taken-replicate (bucket_count (length names)))
