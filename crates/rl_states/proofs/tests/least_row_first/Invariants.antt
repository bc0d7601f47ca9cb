use Rattle.rl_states.proofs.tests.least_row_first.Given as goal

abbrev pub ghosts-least_rows : goal.ghosts-least_rows
ghosts-least_rows g a = record { name = a.blank.name; parts = a.blank.parts }
