use Rattle.std.proofs.Common.{◌≡◌, ◌≤◌, ◌-◌, length, drop, fold}
use Rattle.type_hash.specs.Hash.{crc_byte}
use Rattle.type_hash.proofs.crc.buffer.Given as goal

abbrev pub invariant-loop-at : goal.invariant-loop-at
invariant-loop-at l = record {
  inside : l.at ≤ length l.bytes;
  rest : fold crc_byte l.crc (drop l.at l.bytes) ≡ fold crc_byte 0 l.bytes;
}

abbrev pub decreases-loop-at : goal.decreases-loop-at
decreases-loop-at l = length l.bytes - l.at
