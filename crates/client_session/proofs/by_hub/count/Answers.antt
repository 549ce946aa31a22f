use Rattle.std.proofs.Common.{Err, inr}
use Rattle.client_session.proofs.Passing.{refused_as}
use Rattle.client_session.proofs.by_hub.count.Goals as goal

pub returns-in-Err-clause-puts : goal.returns-in-Err-clause-puts
returns-in-Err-clause-puts g c = record {
  answered = Err c.in-Err.refusal;
  spelled = c.write_refusal.ensures;
  called = record {
    made = inr (refused_as c.args.pass.now c.counts.new.pass c.in-Err.refusal c.in-Err.ensures.reply);
    same = c.in-Err.ensures.same;
    sound = c.in-Err.ensures.sound;
  };
}
