use Rattle.rl_cli.specs.Spelt.{spelt}
use Rattle.rl_cli.proofs.spelt.SpeltDisplay.fmt.Goals as goal

pub returns-clause-writes : goal.returns-clause-writes
unfolding spelt
returns-clause-writes g c = c.write_quoted.ensures
