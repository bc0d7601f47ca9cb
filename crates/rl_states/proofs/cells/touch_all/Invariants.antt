use Rattle.std.proofs.Common.{◌≡◌, ◌≤◌, ◌+◌, ◌*◌, take}
use Rattle.rl_states.specs.Standings.{by_place, touch_at}
use Rattle.rl_states.proofs.cells.touch_all.Given as goal

abbrev pub invariant-loop-row : goal.invariant-loop-row
invariant-loop-row g l = record {
  value : l.cells ≡ record l.initial.cells { standings = by_place (touch_at (take l.row-index l.rows)) l.initial.cells.standings };
  cost : l.steps ≤ l.initial.steps + 4 * l.row-index;
}
