use Rattle.session_pool.proofs.pool.run_pool.Given as goal

-- the numbers with which the pool begins
abbrev pub ghosts-run_books-P-Shift : goal.ghosts-run_books-P-Shift
ghosts-run_books-P-Shift g a = record {
  handed = g.O.Door.handed a.door;
  returned = g.O.Door.returned a.door;
  shut = g.O.Door.shut a.door;
  faults = g.O.Door.faults a.door;
  wanted = a.sessions;
}

abbrev pub ghosts-run_books-T-Ledger : goal.ghosts-run_books-T-Ledger
ghosts-run_books-T-Ledger g a = record { name = a.blanks.0.name; parts = a.blanks.0.parts }

abbrev pub ghosts-run_books-U-Ledger : goal.ghosts-run_books-U-Ledger
ghosts-run_books-U-Ledger g a = record { name = a.blanks.1.name; parts = a.blanks.1.parts }

abbrev pub ghosts-run_books-V-Ledger : goal.ghosts-run_books-V-Ledger
ghosts-run_books-V-Ledger g a = record { name = a.blanks.2.name; parts = a.blanks.2.parts }
