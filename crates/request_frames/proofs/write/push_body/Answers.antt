use Rattle.std.proofs.Common.{◌++◌, ap, ◌∙◌}
use Rattle.request_frames.proofs.write.push_body.Goals as goal

pub returns-clause-frame : goal.returns-clause-frame
returns-clause-frame c = λ f spelled. c.take_in.ensures.frame f c.args.more.now (c.push.ensures ∙ ap (λ xs. xs ++ c.args.more.now) spelled)
