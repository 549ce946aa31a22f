use Rattle.std.proofs.Common.{arith}
use Rattle.type_hash.proofs.Table.{crc_byte-row}
use Rattle.type_hash.proofs.crc.with_byte.Goals as goal

pub returns : goal.returns
returns c = rw (c.row.ensures, c.from.ensures) (crc_byte-row c.args.crc c.args.byte (omega arith))
