use Rattle.std.proofs.Common.{arith}
use Rattle.free_page_maps.proofs.MapTexts.{kept_byte, last_byte, past_byte}
use Rattle.free_page_maps.proofs.padding.padded_byte.Goals as goal

pub returns-then-i-whole : goal.returns-then-i-whole
returns-then-i-whole c = kept_byte c.args.blocks c.args.i c.args.bits.now (λ i. omega (arith, c.type_inv.bits i)) (omega arith)

pub returns-then-rest-ne0 : goal.returns-then-rest-ne0
returns-then-rest-ne0 c = last_byte c.args.blocks c.args.i c.args.bits.now (λ i. omega (arith, c.type_inv.bits i)) (omega arith)

pub returns-else-i-whole-2 : goal.returns-else-i-whole-2
returns-else-i-whole-2 c = past_byte c.args.blocks c.args.i c.args.bits.now (grind arith)
