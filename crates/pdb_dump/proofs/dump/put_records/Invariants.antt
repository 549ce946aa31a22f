use Rattle.std.proofs.Common.{◌≡◌, ◌++◌, [], get_or}
use Rattle.std.specs.List.{flat_map, range_with_len}
use Rattle.record_table.specs.Table.{index_at}
use Rattle.pdb_dump.specs.Dump.{record_line}
use Rattle.pdb_dump.proofs.dump.put_records.Given as goal

abbrev pub invariant-loop-position : goal.invariant-loop-position
invariant-loop-position l = l.text.items ≡ l.initial.text.items ++ flat_map (λ i. record_line l.word (index_at i) (get_or l.records i [])) (range_with_len 0 l.position)
