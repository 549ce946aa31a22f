use Rattle.names_table.proofs.Texts.{text_read}
use Rattle.names_table.proofs.laws.written_names_are_read.Goals as goal

pub returns : goal.returns
returns c = λ table is. text_read table is
