use Rattle.std.proofs.Common.{◌≡◌, ◌≤◌, ◌++◌, length, drop}
use Rattle.std.specs.List.{sum_by}
use Rattle.stream_directory.specs.Directory.{block_count}
use Rattle.stream_directory.specs.Reading.{streams_of}
use Rattle.stream_directory.proofs.reading.push_streams.Given as goal

abbrev pub invariant-loop-size : goal.invariant-loop-size
invariant-loop-size l = (l.streams.items ++ streams_of l.block_size (drop l.size-index l.sizes) l.rest ≡ l.fn.streams.items ++ streams_of l.block_size l.sizes l.numbers) × (sum_by (block_count l.block_size) (drop l.size-index l.sizes) ≤ length l.rest)
