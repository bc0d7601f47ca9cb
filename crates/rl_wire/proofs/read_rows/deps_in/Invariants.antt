use Rattle.std.proofs.Common.{◌≡◌, ◌++◌, map}
use Rattle.std.specs.List.{filter_map}
use Rattle.std.specs.Vec.Iter.{into_iter_items}
use Rattle.serde_json.specs.View.{view}
use Rattle.rl_wire.specs.StartupReading.{dep_in, deps_in}
use Rattle.rl_wire.proofs.read_rows.deps_in.Given as goal

-- those so far, and those among the values that are left
abbrev pub invariant-values : goal.invariant-values
invariant-values l = l.deps.items ++ filter_map dep_in (map view (into_iter_items l.value-iterator)) ≡ deps_in (view l.fn.value)
