use Rattle.std.proofs.Common.{◌≡◌, ◌≤◌, ◌*◌, [], length, drop, count_ones, sum_by, ap, ◌∙◌, arith}
use Rattle.std.proofs.lemmas.List.{length-drop}
use Rattle.std.proofs.lemmas.Nat.{ones-le}
use Rattle.std.proofs.lemmas.Slice.{between_to_end}
use Rattle.byteorder.specs.Endian.{little_number}
use Rattle.info_stream.specs.Words.{words_in}
use Rattle.info_stream.proofs.Maps.{ones_at, words_in-short}
use Rattle.info_stream.proofs.named.ones_in.Goals as goal

pub loop-i-preserved : goal.loop-i-preserved
loop-i-preserved c =
    let words = c.args.words.now in
    let i = c.loop-i.i in
    let read : c.read_u32.result ≡ little_number 4 (drop (4 * i) words) = c.read_u32.ensures ∙ ap (little_number 4) (between_to_end words (4 * i) (length words) (omega arith)) in
    let at = ones_at words i (omega arith) in
    let ones : c.from-ones.result ≡ count_ones (little_number 4 (drop (4 * i) words)) = grind (arith, read) in
    let most : c.from-ones.result ≤ 32 = grind (arith, ones-le 32 c.read_u32.result) in
    (omega (arith, at, ones, c.loop-i.invariant.0), omega (arith, most, c.loop-i.invariant.1))

pub returns-clause-ones : goal.returns-clause-ones
returns-clause-ones c =
    let words = c.args.words.now in
    let i = c.loop-i.i in
    let none : words_in (drop (4 * i) words) ≡ [] = words_in-short (drop (4 * i) words) (omega (arith, length-drop (4 * i) words)) in
    let ended : sum_by count_ones (words_in (drop (4 * i) words)) ≡ 0 = ap (sum_by count_ones) none in
    omega (arith, ended, c.loop-i.invariant.0)
