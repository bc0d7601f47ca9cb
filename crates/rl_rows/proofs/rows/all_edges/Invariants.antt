use Rattle.std.proofs.Common.{◌≡◌, ◌++◌, drop, map}
use Rattle.rl_view_spec.specs.Closure.{Registered}
use Rattle.rl_view_spec.specs.Numbers.{needed}
use Rattle.rl_graph.specs.Graph.{edge_lists}
use Rattle.rl_rows.proofs.rows.all_edges.Given as goal

abbrev pub invariant-loop-row : goal.invariant-loop-row
invariant-loop-row l =
    let r : Registered = record { rows = l.rows; features = l.features } in
    edge_lists l.all.items ++ map (needed r) (drop l.row-index l.rows) ≡ map (needed r) l.rows
