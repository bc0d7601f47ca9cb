use Rattle.std.proofs.Common.{sym, ◌∙◌, arith}
use Rattle.rl_states.proofs.CellsLemmas.{first_is, none_at, none_is, some_within}
use Rattle.rl_states.proofs.cells.first_in.Goals as goal

pub returns-then-may_run-clause-value : goal.returns-then-may_run-clause-value
returns-then-may_run-clause-value g c = first_is c.args.held.now.standings c.loop-row.row _ c.loop-row.invariant.before c.standing-standing.ensures.value
    (sym c.may_run.ensures ∙ c.if-may_run.true)

pub returns-then-may_run-clause-cost : goal.returns-then-may_run-clause-cost
returns-then-may_run-clause-cost g c = omega (
  arith,
  c.standing-standing.ensures.cost,
  c.loop-row.invariant.cost,
  some_within c.args.held.now.standings c.args.block
      c.loop-row.row c.loop-row.invariant.before c.requires.some,
)

pub loop-row-preserved : goal.loop-row-preserved
loop-row-preserved g c = record {
  before = none_at c.args.held.now.standings c.loop-row.row _ c.loop-row.invariant.before c.standing-standing.ensures.value
      (sym c.may_run.ensures ∙ c.if-may_run.false);
  cost = omega (arith, c.standing-standing.ensures.cost, c.loop-row.invariant.cost);
}

pub returns-clause-value : goal.returns-clause-value
returns-clause-value g c = none_is c.args.held.now.standings c.loop-row.row c.loop-row.invariant.before (omega arith)

pub returns-clause-cost : goal.returns-clause-cost
returns-clause-cost g c = omega (
  arith,
  c.loop-row.invariant.cost,
  some_within c.args.held.now.standings c.args.block c.loop-row.row c.loop-row.invariant.before
      c.requires.some,
)
