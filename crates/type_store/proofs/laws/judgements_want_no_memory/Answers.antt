use Rattle.type_store.proofs.Wanting.{names_want_nothing, records_want_nothing}
use Rattle.type_store.proofs.laws.judgements_want_no_memory.Goals as goal

pub returns-clause-records : goal.returns-clause-records
returns-clause-records c = λ max_records max_bytes stream e. records_want_nothing max_records max_bytes stream e

pub returns-clause-names : goal.returns-clause-names
returns-clause-names c = λ max_bytes stream e. names_want_nothing max_bytes stream e
