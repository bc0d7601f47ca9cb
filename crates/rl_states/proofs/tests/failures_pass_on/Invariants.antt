use Rattle.rl_states.proofs.tests.failures_pass_on.Given as goal

abbrev pub ghosts-played : goal.ghosts-played
ghosts-played g a = record { name = a.blank.name; parts = a.blank.parts }
