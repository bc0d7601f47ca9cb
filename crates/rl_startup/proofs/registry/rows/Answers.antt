use Rattle.std.proofs.Common.{◌≡◌, List, None}
use Rattle.rl_names.specs.declared.row.Row.{Row}
use Rattle.rl_view_spec.specs.Breach.{breach_of}
use Rattle.rl_startup.specs.Fine.{Fine}
use Rattle.rl_startup.proofs.FineLemmas.{fine_lawful}
use Rattle.rl_startup.proofs.RowsLemmas.{followed}
use Rattle.rl_startup.proofs.registry.rows.Goals as goal

pub returns-clause-lawful : goal.returns-clause-lawful
returns-clause-lawful c = followed c.all_rows.result Fine (λ (rows : List Row). breach_of rows ≡ None) fine_lawful c.all_rows.ensures.fine
