use Rattle.rl_steps.proofs.write.write_values.Goals as goal

pub returns-in-View-clause-adds : goal.returns-in-View-clause-adds
returns-in-View-clause-adds c = rw c.in-View.is c.write_view.ensures
