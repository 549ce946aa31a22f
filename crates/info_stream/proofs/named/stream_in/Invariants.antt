use Rattle.std.proofs.Common.{◌≡◌, ◌*◌, drop, find}
use Rattle.info_stream.specs.Named.{has_text, pairs_of}
use Rattle.info_stream.specs.Words.{words_in}
use Rattle.info_stream.proofs.named.stream_in.Given as goal

abbrev pub invariant-loop-i : goal.invariant-loop-i
invariant-loop-i l = find (λ pair. has_text l.texts l.name pair.0) (pairs_of (words_in l.pairs)) ≡ find (λ pair. has_text l.texts l.name pair.0) (pairs_of (words_in (drop (8 * l.i) l.pairs)))
