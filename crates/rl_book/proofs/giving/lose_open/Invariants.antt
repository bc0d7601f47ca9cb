use Rattle.rl_book.proofs.giving.lose_open.Given as goal

abbrev pub ghosts-give_up_at_third : goal.ghosts-give_up_at_third
ghosts-give_up_at_third a = record { name = a.blank.name; parts = a.blank.parts }
