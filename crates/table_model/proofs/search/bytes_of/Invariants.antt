use Rattle.std.proofs.Common.{◌≡◌, ◌+◌, drop}
use Rattle.names_table.specs.Names.{bytes_of}
use Rattle.table_model.proofs.search.bytes_of.Given as goal

abbrev pub invariant-loop-name : goal.invariant-loop-name
invariant-loop-name l = l.bytes + bytes_of (drop l.name-index l.names) ≡ bytes_of l.names + 1
