use Rattle.rl_drive.proofs.player.Player.refuse.Given as goal

abbrev pub ghosts-outcome : goal.ghosts-outcome
ghosts-outcome a = record { name = a.blank.name; parts = a.blank.parts }
