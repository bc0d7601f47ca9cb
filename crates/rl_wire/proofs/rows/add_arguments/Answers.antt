use Rattle.std.proofs.Common.{rules}
use Rattle.rl_wire.specs.Startup.{rows_arguments}
use Rattle.rl_wire.proofs.PrintedLemmas.{written}
use Rattle.rl_wire.proofs.rows.add_arguments.Goals as goal

pub returns-clause-text : goal.returns-clause-text
returns-clause-text c =
    written _ _ _ _ (rows_arguments c.args.rows.now) (search rules) (search rules) c.text_of.ensures
