use Rattle.std.proofs.Common.{◌≡◌, ◌*◌, ◌++◌, drop}
use Rattle.stream_directory.specs.Reading.{words_in}
use Rattle.stream_directory.proofs.layout.words_of.Given as goal

abbrev pub invariant-loop-i : goal.invariant-loop-i
invariant-loop-i l = words_in l.bytes ≡ l.words.items ++ words_in (drop (4 * l.i) l.bytes)
