use Rattle.std.proofs.Common.{◌≡◌, ◌≤◌, ◌-◌, length, drop, fold, bit_xor}
use Rattle.type_hash.specs.Hash.{words_and_halves}
use Rattle.type_hash.proofs.strings.joined.Given as goal

abbrev pub invariant-loop-at : goal.invariant-loop-at
invariant-loop-at l = record {
  inside : l.at ≤ length l.bytes;
  rest : fold bit_xor l.x (words_and_halves (drop l.at l.bytes)) ≡ fold bit_xor 0 (words_and_halves l.bytes);
}

abbrev pub decreases-loop-at : goal.decreases-loop-at
decreases-loop-at l = length l.bytes - l.at
