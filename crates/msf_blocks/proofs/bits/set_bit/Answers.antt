use Rattle.msf_blocks.proofs.BitWrites.{has_bit-set, has_bit-set_others}
use Rattle.msf_blocks.proofs.bits.set_bit.Goals as goal

pub returns-clause-set : goal.returns-clause-set
returns-clause-set c = has_bit-set c.args.bits.now c.args.b c.requires

pub returns-clause-others : goal.returns-clause-others
returns-clause-others c = λ k ne. has_bit-set_others c.args.bits.now c.args.b k c.requires ne
