use Rattle.std.proofs.Common.{◌≡◌, ◌≤◌, ◌<◌, ◌+◌, ◌*◌, ◌/◌, ◌%◌, ℕ, false, arith}
use Rattle.msf_blocks.specs.Bits.{has_bit}
use Rattle.free_page_maps.proofs.Scanning.{in_first, in_later, in_none, none_in_first}
use Rattle.free_page_maps.proofs.lowest.lowest_bit.Goals as goal

pub returns-then-high-ne0 : goal.returns-then-high-ne0
returns-then-high-ne0 c =
    let from = c.args.from in
    rw (c.from.ensures, c.from-then-high-ne0.ensures)
    (in_first c.args.bits.now from (from / 8) (from % 8) (omega (arith, c.type_inv.bits (from / 8))) (omega arith) (omega arith) (omega arith))

pub returns-in-Some : goal.returns-in-Some
returns-in-Some c =
    let from = c.args.from in
    let bits = c.args.bits.now in
    let before : (k : ℕ) → from ≤ k → k < 8 * (from / 8 + 1) → has_bit bits k ≡ false =
    none_in_first bits from (from / 8) (from % 8) (omega (arith, c.type_inv.bits (from / 8))) (omega arith) (omega arith) c.if-high-ne0.false in
    rw c.from-in-Some.ensures (in_later bits from (from / 8 + 1) c.in-Some.i (omega (arith, c.type_inv.bits c.in-Some.i)) (omega arith) before c.in-Some.ensures)

pub returns-in-None : goal.returns-in-None
returns-in-None c =
    let from = c.args.from in
    let bits = c.args.bits.now in
    let before : (k : ℕ) → from ≤ k → k < 8 * (from / 8 + 1) → has_bit bits k ≡ false =
    none_in_first bits from (from / 8) (from % 8) (omega (arith, c.type_inv.bits (from / 8))) (omega arith) (omega arith) c.if-high-ne0.false in
    in_none bits from (from / 8 + 1) before c.in-None.ensures
