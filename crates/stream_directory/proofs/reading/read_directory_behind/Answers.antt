use Rattle.std.proofs.Common.{subst, arith}
use Rattle.msf_blocks.specs.Judging.{Tells}
use Rattle.stream_directory.specs.Reading.{directory_damage}
use Rattle.stream_directory.proofs.Streams.{on_read, reading_again}
use Rattle.stream_directory.proofs.reading.read_directory_behind.Goals as goal

pub returns-clause-found : goal.returns-clause-found
returns-clause-found c =
    on_read c.args.s.now c.args.earlier.now c.args.bytes.now c.read_parts.result _ (λ i. omega (arith, c.type_inv.bytes i)) c.read_parts.ensures (λ streams is. is.directory)

pub returns-clause-spelled : goal.returns-clause-spelled
returns-clause-spelled c =
    on_read c.args.s.now c.args.earlier.now c.args.bytes.now c.read_parts.result _ (λ i. omega (arith, c.type_inv.bytes i)) c.read_parts.ensures (λ streams is. is.spelled)

pub returns-clause-only : goal.returns-clause-only
returns-clause-only c = λ streams is spelled.
    subst (Tells directory_damage (λ d. d) c.read_parts.result) (reading_again c.args.s.now c.args.earlier.now c.args.bytes.now streams c.requires.superblock.blocks_fit is spelled) c.read_parts.ensures
