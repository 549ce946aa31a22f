-- The tables of the program, as clauses see them.
use Rattle.table_model.specs.Tables.{Tables}
use Rattle.type_store.specs.declared.tables.Tables as program

abbrev pub tables_in : program.Tables → Tables
tables_in tables = record { types = tables.types; items = tables.items; names = tables.names }
