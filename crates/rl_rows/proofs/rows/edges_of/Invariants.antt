use Rattle.std.proofs.Common.{◌≡◌, ◌++◌, drop}
use Rattle.std.specs.List.{filter_map}
use Rattle.rl_view_spec.specs.Closure.{Registered}
use Rattle.rl_view_spec.specs.Numbers.{number_of_dep}
use Rattle.rl_rows.proofs.rows.edges_of.Given as goal

abbrev pub invariant-loop-dep : goal.invariant-loop-dep
invariant-loop-dep l =
    let r : Registered = record { rows = l.rows; features = l.features } in
    l.edges.items ++ filter_map (number_of_dep r) (drop l.dep-index l.dep-items) ≡ filter_map (number_of_dep r) l.row.deps
