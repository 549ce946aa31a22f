use Rattle.std.proofs.Common.{◌≡◌, ◌≤◌, ◌-◌, length, drop, fold}
use Rattle.type_hash.specs.Hash.{mixed, words_and_bytes}
use Rattle.type_hash.proofs.strings.all_mixed.Given as goal

abbrev pub invariant-loop-at : goal.invariant-loop-at
invariant-loop-at l = record {
  inside : l.at ≤ length l.bytes;
  rest : fold mixed l.hash (words_and_bytes (drop l.at l.bytes)) ≡ fold mixed 0xB170A1BF (words_and_bytes l.bytes);
}

abbrev pub decreases-loop-at : goal.decreases-loop-at
decreases-loop-at l = length l.bytes - l.at
