use Rattle.table_model.proofs.add.add_leaf.Given as goal

abbrev pub ghosts-put : goal.ghosts-put
ghosts-put a = record { name = a.blank.name; parts = a.blank.parts }
