use Rattle.std.proofs.Common.{◌≤◌, ◌-◌, length, vec_capacity}
use Rattle.rl_graph.specs.Graph.{edge_lists}
use Rattle.rl_graph.proofs.SpreadingLemmas.{Spreading}
use Rattle.rl_graph.proofs.marks.spread.Given as goal

abbrev pub invariant-loop-at : goal.invariant-loop-at
invariant-loop-at l = record {
  spreading : Spreading (edge_lists l.edges) l.starts l.fn.marks l.marks l.found.items l.at;
  room : length l.marks ≤ vec_capacity l.found;
}

abbrev pub decreases-loop-at : goal.decreases-loop-at
decreases-loop-at l = length l.edges - l.at
