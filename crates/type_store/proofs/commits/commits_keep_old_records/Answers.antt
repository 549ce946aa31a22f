use Rattle.type_store.proofs.Missing.{inner_items, inner_types}
use Rattle.type_store.proofs.commits.commits_keep_old_records.Goals as goal

pub returns-clause-types : goal.returns-clause-types
returns-clause-types c = λ commit image new may shares. inner_types commit image new may shares

pub returns-clause-items : goal.returns-clause-items
returns-clause-items c = λ commit image new may shares. inner_items commit image new may shares
