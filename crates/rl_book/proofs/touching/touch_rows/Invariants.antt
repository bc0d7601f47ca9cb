use Rattle.rl_book.proofs.touching.touch_rows.Given as goal

abbrev pub ghosts-touch : goal.ghosts-touch
ghosts-touch a = record { name = a.blank.name; parts = a.blank.parts }

abbrev pub ghosts-give_rows : goal.ghosts-give_rows
ghosts-give_rows a = record { name = a.blank.name; parts = a.blank.parts }
