use Rattle.call_journal.proofs.Decoding.{caller_of_word, deed_of_word, small_word, word_of_deed}
use Rattle.core_model.proofs.laws.words.Goals as goal

pub returns-clause-deed : goal.returns-clause-deed
returns-clause-deed c = deed_of_word

pub returns-clause-caller : goal.returns-clause-caller
returns-clause-caller c = λ n deed bytes is. caller_of_word n deed is

pub returns-clause-bits : goal.returns-clause-bits
returns-clause-bits c = small_word

pub returns-clause-only : goal.returns-clause-only
returns-clause-only c = λ word deed small is. word_of_deed word deed is small
