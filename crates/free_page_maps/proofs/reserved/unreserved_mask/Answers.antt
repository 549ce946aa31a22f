use Rattle.std.proofs.Common.{arith}
use Rattle.free_page_maps.proofs.Masks.{first_mask, full_mask, run_mask}
use Rattle.free_page_maps.proofs.reserved.unreserved_mask.Goals as goal

pub returns-then-i-eq0 : goal.returns-then-i-eq0
returns-then-i-eq0 c = λ k lt. first_mask c.args.block_size c.args.i k c.requires c.if-i-eq0.true lt

pub returns-then-i-block_size-eq0 : goal.returns-then-i-block_size-eq0
returns-then-i-block_size-eq0 c = λ k lt. run_mask c.args.block_size c.args.i k c.requires (omega arith) c.if-i-block_size-eq0.true lt

pub returns-else-i-block_size-eq0 : goal.returns-else-i-block_size-eq0
returns-else-i-block_size-eq0 c = λ k lt. full_mask c.args.block_size c.args.i k c.requires (omega arith) (omega arith) lt
