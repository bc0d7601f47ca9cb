use Rattle.rl_startup.proofs.RowsLemmas.{rows_are_lawful}
use Rattle.rl_startup.proofs.modules.row_laws.Goals as goal

pub returns : goal.returns
returns c = rows_are_lawful
