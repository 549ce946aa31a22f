use Rattle.std.proofs.Common.{◌≡◌, ◌++◌, map, take}
use Rattle.std.specs.List.{flat_map}
use Rattle.stream_directory.specs.Directory.{size_field, word}
use Rattle.stream_directory.proofs.writing.put_sizes.Given as goal

abbrev pub invariant-loop-stream : goal.invariant-loop-stream
invariant-loop-stream l = l.text.items ≡ l.fn.text.items ++ flat_map word (map size_field (take l.stream-index l.streams))
