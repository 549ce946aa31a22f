use Rattle.command_words.proofs.Plans.{plans_only, read}
use Rattle.command_words.proofs.laws.plans_have_words.Goals as goal

pub returns-clause-read : goal.returns-clause-read
returns-clause-read c = read

pub returns-clause-only : goal.returns-clause-only
returns-clause-only c = plans_only
