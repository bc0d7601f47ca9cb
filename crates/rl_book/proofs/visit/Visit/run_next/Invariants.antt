use Rattle.rl_book.proofs.visit.Visit.run_next.Given as goal

abbrev pub ghosts-first_run : goal.ghosts-first_run
ghosts-first_run g a = record { name = a.blank.name; parts = a.blank.parts }
