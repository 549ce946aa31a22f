use Rattle.std.proofs.Common.{◌≡◌, ◌+◌, drop}
use Rattle.names_table.specs.Names.{bytes_of, name_from}
use Rattle.table_model.proofs.search.name_at.Given as goal

abbrev pub invariant-loop-name : goal.invariant-loop-name
invariant-loop-name l = record {
  rest : name_from l.start (drop l.name-index l.names) l.offset ≡ name_from 1 l.names l.offset;
  so_far : l.start + bytes_of (drop l.name-index l.names) ≡ bytes_of l.names + 1;
}
