use Rattle.msf_blocks.proofs.BitWrites.{has_bit-clear, has_bit-clear_others}
use Rattle.msf_blocks.proofs.bits.clear_bit.Goals as goal

pub returns-clause-cleared : goal.returns-clause-cleared
returns-clause-cleared c = has_bit-clear c.args.bits.now c.args.b c.requires

pub returns-clause-others : goal.returns-clause-others
returns-clause-others c = λ k ne. has_bit-clear_others c.args.bits.now c.args.b k c.requires ne
