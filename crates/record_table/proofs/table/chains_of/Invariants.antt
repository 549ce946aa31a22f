use Rattle.std.proofs.Common.{◌≡◌, ◌≤◌, ◌+◌, take, length}
use Rattle.record_table.specs.Buckets.{hashes_of}
use Rattle.record_table.proofs.table.chains_of.Given as goal

abbrev pub invariant-loop-number : goal.invariant-loop-number
invariant-loop-number l = record {
  hashes : l.chains.hashes ≡ hashes_of (take l.number l.records);
  spare : length l.records ≤ l.number + l.chains.spare;
}
