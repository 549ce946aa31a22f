use Rattle.std.proofs.Common.{◌≡◌, ◌≤◌, ◌*◌, ◌+◌, count_ones, drop, sum_by}
use Rattle.info_stream.specs.Words.{words_in}
use Rattle.info_stream.proofs.named.ones_in.Given as goal

abbrev pub invariant-loop-i : goal.invariant-loop-i
invariant-loop-i l = (l.ones + sum_by count_ones (words_in (drop (4 * l.i) l.words)) ≡ sum_by count_ones (words_in l.words)) × (l.ones ≤ 32 * l.i)
