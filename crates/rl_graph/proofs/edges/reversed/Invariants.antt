use Rattle.rl_graph.specs.Graph.{edge_lists}
use Rattle.rl_graph.proofs.ReversingLemmas.{Gathered}
use Rattle.rl_graph.proofs.edges.reversed.Given as goal

abbrev pub invariant-loop-from : goal.invariant-loop-from
invariant-loop-from l = Gathered (edge_lists l.edges) l.from (edge_lists l.lists.items)
