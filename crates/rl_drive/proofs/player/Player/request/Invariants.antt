use Rattle.rl_drive.proofs.player.Player.request.Given as goal

abbrev pub ghosts-touch : goal.ghosts-touch
ghosts-touch a = record { name = a.blank.name; parts = a.blank.parts }
