use Rattle.std.proofs.Common.{◌≡◌, ◌≤◌, ◌+◌, ◌*◌, take}
use Rattle.rl_graph.specs.Graph.{next_in}
use Rattle.rl_states.specs.Standings.{by_place, release_at}
use Rattle.rl_states.proofs.cells.release.Given as goal

abbrev pub invariant-loop-place : goal.invariant-loop-place
invariant-loop-place g l = record {
  value : l.cells ≡ record l.initial.cells {
    standings = by_place (release_at (take l.place (next_in l.initial.cells.users l.row)))
        l.initial.cells.standings;
  };
  cost : l.steps ≤ l.initial.steps + 5 * l.place;
}
