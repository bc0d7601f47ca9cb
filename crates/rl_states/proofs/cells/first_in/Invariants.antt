use Rattle.std.proofs.Common.{◌≡◌, ◌+◌, ◌*◌}
use Rattle.rl_states.specs.Cells.{IsNoneBefore}
use Rattle.rl_states.proofs.cells.first_in.Given as goal

abbrev pub invariant-loop-row : goal.invariant-loop-row
invariant-loop-row g l = record {
  before : IsNoneBefore l.held.standings l.row;
  cost : l.steps + 64 * l.block ≡ l.fn.steps + l.row;
}
