use Rattle.rl_compact.proofs.RefusedLemmas.{marks_say_unresolved}
use Rattle.rl_compact.proofs.unresolved.unresolved_laws.Goals as goal

pub returns : goal.returns
returns c = marks_say_unresolved
