use Rattle.tpi_stream.proofs.Joining.{joined_read, read_joined}
use Rattle.tpi_stream.proofs.laws.records_are_joined.Goals as goal

pub returns-clause-read : goal.returns-clause-read
returns-clause-read c = λ records at all. joined_read records at all

pub returns-clause-records : goal.returns-clause-records
returns-clause-records c = λ at bytes records is. (read_joined at bytes records is).each

pub returns-clause-joined : goal.returns-clause-joined
returns-clause-joined c = λ at bytes records is. (read_joined at bytes records is).all
