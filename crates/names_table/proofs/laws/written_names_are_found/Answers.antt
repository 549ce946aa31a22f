use Rattle.names_table.specs.Buckets.{buckets_of}
use Rattle.names_table.proofs.Lookups.{all_found}
use Rattle.names_table.proofs.laws.written_names_are_found.Goals as goal

pub returns : goal.returns
unfolding buckets_of
returns c = λ version names. all_found version names
