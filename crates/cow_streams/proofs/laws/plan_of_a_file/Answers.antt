use Rattle.cow_streams.proofs.laws.plan_of_a_file.Goals as goal

pub returns-clause-old : goal.returns-clause-old
returns-clause-old c = λ limit old edits p streams file other is r keeps. is.keeps streams file other r keeps

pub returns-clause-new : goal.returns-clause-new
returns-clause-new c = λ limit old edits p streams file other is r takes. is.takes streams file other r takes
