use Rattle.std.proofs.Common.{◌≡◌, ◌++◌, [], take, get_or}
use Rattle.std.specs.List.{flat_map, range_with_len}
use Rattle.names_table.specs.Names.{bytes_of}
use Rattle.pdb_dump.specs.Dump.{name_line}
use Rattle.pdb_dump.proofs.dump.put_names.Given as goal

abbrev pub invariant-loop-position : goal.invariant-loop-position
invariant-loop-position l = record {
  text : l.text.items ≡ l.initial.text.items ++ flat_map (λ i. name_line (bytes_of (take i l.names.names)) (get_or l.names.names i [])) (range_with_len 0 l.position);
  offset : l.offset ≡ bytes_of (take l.position l.names.names);
}
