use Rattle.std.proofs.Common.{◌≡◌, ◌++◌, take}
use Rattle.std.specs.List.{flat_map}
use Rattle.stream_directory.specs.Directory.{blocks_in, word}
use Rattle.stream_directory.proofs.writing.put_blocks.Given as goal

abbrev pub invariant-loop-stream : goal.invariant-loop-stream
invariant-loop-stream l = l.text.items ≡ l.fn.text.items ++ flat_map word (flat_map blocks_in (take l.stream-index l.streams))
