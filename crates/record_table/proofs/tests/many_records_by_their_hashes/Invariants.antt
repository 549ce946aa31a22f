use Rattle.record_table.proofs.tests.many_records_by_their_hashes.Given as goal

abbrev pub ghosts-add : goal.ghosts-add
ghosts-add g a = record { name = a.blank.name; parts = a.blank.parts }

abbrev pub ghosts-find : goal.ghosts-find
ghosts-find g a = record { name = a.blank.name; parts = a.blank.parts }
