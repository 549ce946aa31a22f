use Rattle.type_store.proofs.Damaged.{info_damaged, items_damaged, names_damaged, size_damaged, types_damaged}
use Rattle.type_store.proofs.laws.changed_files_are_damaged.Goals as goal

pub returns-clause-info : goal.returns-clause-info
returns-clause-info c = λ limits. info_damaged limits

pub returns-clause-types : goal.returns-clause-types
returns-clause-types c = λ limits. types_damaged limits

pub returns-clause-items : goal.returns-clause-items
returns-clause-items c = λ limits. items_damaged limits

pub returns-clause-names : goal.returns-clause-names
returns-clause-names c = λ limits. names_damaged limits

pub returns-clause-size : goal.returns-clause-size
returns-clause-size c = λ limits. size_damaged limits
