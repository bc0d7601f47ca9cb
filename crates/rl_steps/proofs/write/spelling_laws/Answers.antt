use Rattle.rl_steps.proofs.SpellingLemmas.{steps_read_back}
use Rattle.rl_steps.proofs.write.spelling_laws.Goals as goal

pub returns : goal.returns
returns c = steps_read_back
