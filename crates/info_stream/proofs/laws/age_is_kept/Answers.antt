use Rattle.info_stream.proofs.Ages.{age_in-with_age, length-with_age, named-with_age}
use Rattle.info_stream.proofs.laws.age_is_kept.Goals as goal

pub returns-clause-age : goal.returns-clause-age
returns-clause-age c = λ info age le lt. age_in-with_age info age le lt

pub returns-clause-len : goal.returns-clause-len
returns-clause-len c = λ info age le. length-with_age info age le

pub returns-clause-names : goal.returns-clause-names
returns-clause-names c = λ info name age le. named-with_age info name age le
