use Rattle.std.proofs.Common.{◌≡◌, ◌≤◌, ◌-◌, ◌++◌, length}
use Rattle.tpi_stream.specs.Hashes.{offsets_between, start_at}
use Rattle.tpi_stream.proofs.hashes.put_offsets.Given as goal

abbrev pub invariant-loop-record : goal.invariant-loop-record
invariant-loop-record l =
    (l.text.items ++ offsets_between l.records l.i (length l.records - l.i) ≡ l.fn.text.items ++ offsets_between l.records l.from (length l.records - l.from))
    × (l.start ≡ start_at l.records l.i) × (l.i ≤ length l.records)

abbrev pub decreases-loop-record : goal.decreases-loop-record
decreases-loop-record l = length l.records - l.i
