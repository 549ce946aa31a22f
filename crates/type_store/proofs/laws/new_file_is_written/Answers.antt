use Rattle.std.proofs.Common.{arith}
use Rattle.info_stream.specs.Text.{new_info}
use Rattle.table_model.specs.Bounds.{bounds_of}
use Rattle.table_model.specs.Tables.{empty_tables}
use Rattle.type_store.specs.NewFile.{new_contents, new_numbers}
use Rattle.type_store.proofs.NewFile.{empty_within, new_can_keep, new_written}
use Rattle.type_store.proofs.laws.new_file_is_written.Goals as goal

pub returns-clause-can : goal.returns-clause-can
returns-clause-can c = λ guid signature len. new_can_keep guid signature len

pub returns-clause-within : goal.returns-clause-within
returns-clause-within c = λ limits. empty_within limits

pub returns-clause-written : goal.returns-clause-written
returns-clause-written c = λ limits guid signature. new_written guid signature limits

pub returns-clause-held : goal.returns-clause-held
returns-clause-held c = λ limits guid signature len.
    c.written_tables_are_held.ensures.held (bounds_of limits) new_numbers (new_info guid signature) 1 (empty_tables limits) (new_contents guid signature) (new_can_keep guid signature len) (empty_within limits) (omega arith) (new_written guid signature limits)
