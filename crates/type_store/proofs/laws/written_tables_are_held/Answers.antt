use Rattle.std.proofs.Common.{refl}
use Rattle.type_store.proofs.Written.{tables_written, written_tables}
use Rattle.type_store.proofs.laws.written_tables_are_held.Goals as goal

pub returns-clause-held : goal.returns-clause-held
returns-clause-held c = λ limits kept info age tables contents can within small is. tables_written c.written_names_are_read.ensures limits kept info age tables contents can within small is

pub returns-clause-tables : goal.returns-clause-tables
returns-clause-tables c = λ limits kept age tables within. written_tables limits kept age tables within

pub returns-clause-age : goal.returns-clause-age
returns-clause-age c = λ kept age tables. refl

pub returns-clause-kept : goal.returns-clause-kept
returns-clause-kept c = λ kept age tables. refl
