use Rattle.std.proofs.Common.{◌≡◌, ◌≤◌, ◌+◌, ◌++◌, ◌-◌, drop, length}
use Rattle.names_table.specs.Names.{bytes_of}
use Rattle.names_table.specs.Reading.{first_long}
use Rattle.names_table.specs.Strings.{names_cut}
use Rattle.names_table.proofs.read.append_names.Given as goal

abbrev pub invariant-loop-at : goal.invariant-loop-at
invariant-loop-at l = record {
  within : l.at ≤ length l.strings;
  names : l.table.names ++ names_cut (drop l.at l.strings) ≡ names_cut l.strings;
  long : first_long (13 + l.at) (names_cut (drop l.at l.strings)) ≡ first_long 13 (names_cut l.strings);
  room : bytes_of l.table.names ≤ l.at + 1;
  limit : l.table.max_bytes ≡ l.initial.table.max_bytes;
  version : l.table.version ≡ l.initial.table.version;
}

abbrev pub decreases-loop-at : goal.decreases-loop-at
decreases-loop-at l = length l.strings - l.at
