use Rattle.command_words.proofs.Spelling.{gives, spells}
use Rattle.command_words.proofs.laws.words_spell.Goals as goal

pub returns-clause-spelled : goal.returns-clause-spelled
returns-clause-spelled c = spells

pub returns-clause-given : goal.returns-clause-given
returns-clause-given c = λ names words given known s. gives names known words given s
