use Rattle.core_model.proofs.Replying.{one_index, stands, tables_of_other, tables_of_reply}
use Rattle.core_model.proofs.laws.replies.Goals as goal

pub returns-clause-tables : goal.returns-clause-tables
returns-clause-tables c = tables_of_reply

pub returns-clause-no_others : goal.returns-clause-no_others
returns-clause-no_others c = tables_of_other

pub returns-clause-stands : goal.returns-clause-stands
returns-clause-stands c = stands

pub returns-clause-one_index : goal.returns-clause-one_index
returns-clause-one_index c = one_index
