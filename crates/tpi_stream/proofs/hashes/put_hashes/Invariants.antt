use Rattle.std.proofs.Common.{◌≡◌, ◌%◌, ◌++◌, drop, take}
use Rattle.std.specs.List.{flat_map}
use Rattle.byteorder.specs.Endian.{little_bytes}
use Rattle.tpi_stream.proofs.hashes.put_hashes.Given as goal

abbrev pub invariant-loop-hash : goal.invariant-loop-hash
invariant-loop-hash l = l.text.items ≡ l.fn.text.items ++ flat_map (λ h. little_bytes 4 (h % l.fn.buckets)) (take l.hash-index (drop l.from l.hashes))
