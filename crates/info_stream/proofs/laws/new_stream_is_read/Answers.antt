use Rattle.info_stream.proofs.Ages.{age_in-new_info, length-new_info, named-new_info}
use Rattle.info_stream.proofs.laws.new_stream_is_read.Goals as goal

pub returns-clause-len : goal.returns-clause-len
returns-clause-len c = λ guid signature len. length-new_info guid signature len

pub returns-clause-age : goal.returns-clause-age
returns-clause-age c = λ guid signature len. age_in-new_info guid signature len

pub returns-clause-names : goal.returns-clause-names
returns-clause-names c = λ guid signature len. named-new_info guid signature len
