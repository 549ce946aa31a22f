use Rattle.std.proofs.Common.{refl}
use Rattle.table_model.specs.Tables.{empty_tables}
use Rattle.type_store.specs.NewFile.{new_numbers}
use Rattle.type_store.specs.Written.{written_held}
use Rattle.type_store.proofs.Leaving.{held_room}
use Rattle.type_store.proofs.commits.held_tables_can_be_committed.Goals as goal

pub returns-clause-opened : goal.returns-clause-opened
returns-clause-opened c = λ limits contents held bytes holds.
    let can = c.held_numbers_can_be_kept.ensures limits contents held bytes holds in
    (can.0, can.2, record { held = held; holds = holds; info_stream = can.1; kept_are = refl; age_is = refl; tables_are = refl })

pub returns-clause-created : goal.returns-clause-created
returns-clause-created c = λ limits guid signature len. (
  c.new_file_is_written.ensures.can guid signature len,
  record {
    held = written_held new_numbers 1 (empty_tables limits);
    holds = c.new_file_is_written.ensures.held limits guid signature len;
    info_stream = refl;
    kept_are = refl;
    age_is = refl;
    tables_are = refl;
  },
)

pub returns-clause-room : goal.returns-clause-room
returns-clause-room c = λ limits kept info age tables contents h. held_room limits kept info age tables contents h
