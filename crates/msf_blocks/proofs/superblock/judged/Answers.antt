use Rattle.std.proofs.Common.{sym, ◌∙◌}
use Rattle.msf_blocks.proofs.Judging.{err_is}
use Rattle.msf_blocks.proofs.SuperblockTexts.{judged_err, judged_ok}
use Rattle.msf_blocks.proofs.superblock.judged.Goals as goal

pub returns-in_err-judge : goal.returns-in_err-judge
returns-in_err-judge c =
    err_is c.from_residual.result _ c.in_err-judge.field-0.0 c.from_residual.ensures.1
    (judged_err tt c.args.bytes.now c.args.file_len c.args.limit c.numbers_of-s.result c.in_err-judge.field-0.0 c.numbers_of-s.ensures (sym c.begins_well.ensures.test ∙ c.if-not-begins_well.false) (sym c.in_err-judge.ensures))

pub returns : goal.returns
returns c =
    sym (judged_ok tt c.in_ok-judge.field-0 c.args.bytes.now c.args.file_len c.args.limit c.numbers_of-s.result c.numbers_of-s.ensures (sym c.begins_well.ensures.test ∙ c.if-not-begins_well.false) (sym c.in_ok-judge.ensures))
