use Rattle.std.proofs.Common.{◌≡◌, ◌++◌, get_or, None}
use Rattle.std.specs.List.{flat_map, range_with_len}
use Rattle.pdb_dump.specs.Dump.{stream_line}
use Rattle.pdb_dump.proofs.dump.put_streams.Given as goal

abbrev pub invariant-loop-i : goal.invariant-loop-i
invariant-loop-i l = l.text.items ≡ l.initial.text.items ++ flat_map (λ i. stream_line l.block_size i (get_or l.directory i None)) (range_with_len 0 l.i)
