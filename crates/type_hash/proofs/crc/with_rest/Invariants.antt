use Rattle.std.proofs.Common.{◌≡◌, fold, take}
use Rattle.type_hash.specs.Hash.{crc_byte}
use Rattle.type_hash.proofs.crc.with_rest.Given as goal

abbrev pub invariant-loop-byte : goal.invariant-loop-byte
invariant-loop-byte l = l.crc ≡ fold crc_byte l.fn.crc (take l.byte-index l.rest)
