use Rattle.core_model.proofs.Open.{unended}
use Rattle.core_model.proofs.laws.open_commits.Goals as goal

pub returns-clause-alone : goal.returns-clause-alone
returns-clause-alone c = λ b front between began n l is ends. (unended b front between began n l is ends).0

pub returns-clause-stays : goal.returns-clause-stays
returns-clause-stays c = λ b front between began n l is ends. (unended b front between began n l is ends).1
