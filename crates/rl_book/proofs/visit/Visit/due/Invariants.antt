use Rattle.rl_book.proofs.visit.Visit.due.Given as goal

abbrev pub ghosts-first_run : goal.ghosts-first_run
ghosts-first_run a = record { name = a.blank.name; parts = a.blank.parts }
