use Rattle.msf_blocks.proofs.Judging.{told_err}
use Rattle.msf_image.specs.Faults.{damage_in, fault_of_superblock}
use Rattle.msf_image.proofs.Superblocks.{front_text, superblock_err, superblock_ok}
use Rattle.msf_image.proofs.open.read_head.Goals as goal

pub returns-in_err-head-clause-reads : goal.returns-in_err-head-clause-reads
returns-in_err-head-clause-reads g c = λ tells.
    told_err damage_in _ _ _ (fault_of_superblock c.in_err-head.field-0.0) c.from_residual-in_err-head.ensures.1
    (superblock_err _ _ _ _ c.in_err-head.field-0.0 (c.in_ok-bytes.ensures.len tells) (c.in_ok-bytes.ensures.bytes tells) c.in_err-head.ensures.exact)

pub returns-clause-reads : goal.returns-clause-reads
returns-clause-reads g c = λ tells.
    superblock_ok _ _ _ _ c.in_ok-head.head (c.in_ok-bytes.ensures.len tells) (c.in_ok-bytes.ensures.bytes tells) c.in_ok-head.ensures.exact

pub returns-clause-text : goal.returns-clause-text
returns-clause-text g c = λ tells.
    front_text _ _ _ c.in_ok-head.head c.in_ok-head.ensures.passes c.in_ok-head.ensures.inside (c.in_ok-bytes.ensures.bytes tells) c.in_ok-head.ensures.text
