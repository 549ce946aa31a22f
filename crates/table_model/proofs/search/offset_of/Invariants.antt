use Rattle.std.proofs.Common.{◌≡◌, ◌+◌, drop}
use Rattle.names_table.specs.Names.{bytes_of, offset_from}
use Rattle.table_model.proofs.search.offset_of.Given as goal

abbrev pub invariant-loop-known : goal.invariant-loop-known
invariant-loop-known l = record {
  rest : offset_from l.offset (drop l.known-index l.names) l.name ≡ offset_from 1 l.names l.name;
  so_far : l.offset + bytes_of (drop l.known-index l.names) ≡ bytes_of l.names + 1;
}
