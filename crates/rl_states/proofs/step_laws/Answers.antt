use Rattle.rl_states.proofs.BoundLemmas.{steps_bounded}
use Rattle.rl_states.proofs.step_laws.Goals as goal

pub returns : goal.returns
returns c = record { bounded = steps_bounded }
