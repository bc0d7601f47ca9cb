use Rattle.std.proofs.Common.{◌∙◌, ap, arith}
use Rattle.rl_view_spec.specs.Progress.{next_row}
use Rattle.rl_states.specs.Kept.{progress_in}
use Rattle.rl_states.proofs.CellsLemmas.{first_low}
use Rattle.rl_states.proofs.TablesLemmas.{next_is}
use Rattle.rl_states.proofs.table.Table.first_run.Goals as goal

pub overflow_cast-result : goal.overflow_cast-result
overflow_cast-result g c = omega (
  arith,
  first_low c.self.inside.cells.standings c.in-Some.row c.in-Some.ensures.value,
  c.self.invariant.table.few,
  c.self.invariant.table.long,
)

pub returns-in-Some-clause-value : goal.returns-in-Some-clause-value
returns-in-Some-clause-value g c =
    c.in-Some.ensures.value ∙ next_is (progress_in c.self.inside) c.self.inside.cells.standings c.self.inside.cells.users
    c.self.inside.cells.spoiled c.self.invariant.table
    ∙ ap next_row c.self.view_is

pub returns-in-None-clause-value : goal.returns-in-None-clause-value
returns-in-None-clause-value g c =
    c.in-None.ensures.value ∙ next_is (progress_in c.self.inside) c.self.inside.cells.standings c.self.inside.cells.users
    c.self.inside.cells.spoiled c.self.invariant.table
    ∙ ap next_row c.self.view_is
