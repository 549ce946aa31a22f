use Rattle.std.proofs.Common.{arith}
use Rattle.info_stream.proofs.Fitting.{numbers_fit, numbers_short}
use Rattle.info_stream.proofs.fields.numbers.Goals as goal

pub returns-then-n-len-clause-exact : goal.returns-then-n-len-clause-exact
returns-then-n-len-clause-exact c = numbers_short c.args.whole c.args.n c.args.bytes.now (omega arith)

pub returns-clause-exact : goal.returns-clause-exact
returns-clause-exact c = rw (c.split_at.ensures.front, c.split_at.ensures.back) (numbers_fit c.args.whole c.args.n c.args.bytes.now (omega arith))
