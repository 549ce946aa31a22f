use Rattle.std.proofs.Common.{arith}
use Rattle.stream_directory.proofs.Fields.{fields_at-fits, fields_at-short}
use Rattle.stream_directory.proofs.layout.fields_at.Goals as goal

pub returns-then-n-words-clause-exact : goal.returns-then-n-words-clause-exact
returns-then-n-words-clause-exact c = fields_at-short c.args.at c.args.n c.args.words.now (omega arith)

pub returns-clause-exact : goal.returns-clause-exact
returns-clause-exact c =
    rw (c.split_at.ensures.front, c.split_at.ensures.back) (fields_at-fits c.args.at c.args.n c.args.words.now (omega arith))
