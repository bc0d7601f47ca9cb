use Rattle.rl_wire.proofs.StartupAloneLemmas.{texts_say_startups}
use Rattle.rl_wire.proofs.startup.startup_laws.Goals as goal

pub returns : goal.returns
returns c = texts_say_startups
