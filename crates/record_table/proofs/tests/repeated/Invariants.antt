use Rattle.std.proofs.Common.{◌≡◌, ◌*◌, length}
use Rattle.record_table.specs.Table.{bytes_in}
use Rattle.record_table.proofs.tests.repeated.Given as goal

abbrev pub invariant-loop-number : goal.invariant-loop-number
invariant-loop-number l = record {
  count : length l.table.records ≡ l.number;
  bytes : bytes_in l.table ≡ 12 * l.number;
  max_records : l.table.max_records ≡ 8388608;
  max_bytes : l.table.max_bytes ≡ 1073741824;
}
