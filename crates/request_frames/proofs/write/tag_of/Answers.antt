use Rattle.std.proofs.Common.{length, ap, ◌∙◌}
use Rattle.srv_edge.proofs.Numbers.{length-word_bytes}
use Rattle.request_frames.proofs.write.tag_of.Goals as goal

pub returns-then-head-eq2-clause-size : goal.returns-then-head-eq2-clause-size
returns-then-head-eq2-clause-size c = rw c.if-head-eq2.true (ap length c.requires ∙ length-word_bytes c.args.head.tag)
