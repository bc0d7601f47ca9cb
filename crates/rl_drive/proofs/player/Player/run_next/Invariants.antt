use Rattle.rl_drive.proofs.player.Player.run_next.Given as goal

abbrev pub ghosts-first_run : goal.ghosts-first_run
ghosts-first_run g a = record { name = a.blank.name; parts = a.blank.parts }

abbrev pub ghosts-run : goal.ghosts-run
ghosts-run g a = record { name = a.blank.name; parts = a.blank.parts }
