use Rattle.std.proofs.Common.{◌≡◌, ap, bit_xor, ◌∙◌, arith}
use Rattle.type_hash.specs.Hash.{eight_bits, word}
use Rattle.type_hash.proofs.Four.{fold_four, four_rows}
use Rattle.type_hash.proofs.crc.with_four.Goals as goal

pub returns : goal.returns
returns c =
    let crc = c.args.crc in
    let w = c.from_le_bytes.result in
    let joined : w ≡ word c.args.first c.args.second c.args.third c.args.fourth = omega (arith, c.from_le_bytes.ensures) in
    rw (c.row_before_three.ensures, c.row_before_two.ensures, c.row_before_one.ensures, c.row.ensures)
    (four_rows (bit_xor crc w) ∙ ap (λ x. eight_bits (eight_bits (eight_bits (eight_bits (bit_xor crc x))))) joined
    ∙ fold_four crc c.args.first c.args.second c.args.third c.args.fourth (omega arith) (omega arith) (omega arith) (omega arith))
