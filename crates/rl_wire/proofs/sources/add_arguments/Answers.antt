use Rattle.std.proofs.Common.{rules}
use Rattle.rl_wire.specs.Startup.{sources_arguments}
use Rattle.rl_wire.proofs.PrintedLemmas.{written}
use Rattle.rl_wire.proofs.sources.add_arguments.Goals as goal

pub returns-clause-text : goal.returns-clause-text
returns-clause-text c =
    written _ _ _ _ (sources_arguments c.args.sources.now) (search rules) (search rules) c.text_of.ensures
