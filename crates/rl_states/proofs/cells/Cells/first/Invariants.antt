use Rattle.std.proofs.Common.{◌≡◌, ◌+◌, ◌*◌}
use Rattle.rl_states.specs.Cells.{IsNoneBefore}
use Rattle.rl_states.proofs.cells.Cells.first.Given as goal

abbrev pub invariant-loop-block : goal.invariant-loop-block
invariant-loop-block g l = record {
  before : IsNoneBefore l.self-inside.held.standings (64 * l.block);
  cost : l.steps ≡ l.fn.steps + l.block;
}
