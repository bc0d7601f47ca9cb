use Rattle.std.proofs.Common.{◌≡◌, drop}
use Rattle.std.specs.Prelude.{option_map}
use Rattle.std.specs.List.{filter_map}
use Rattle.rl_registry.specs.Search.{unknown_dep}
use Rattle.rl_rows.specs.Least.{least_from}
use Rattle.rl_registry.proofs.registry.Registry.least_unknown_of.Given as goal

abbrev pub invariant-loop-dep : goal.invariant-loop-dep
invariant-loop-dep l =
    least_from (option_map (λ name. name.now) l.found) (filter_map (unknown_dep l.self) (drop l.dep-index l.deps))
    ≡ least_from (option_map (λ name. name.now) l.fn.found) (filter_map (unknown_dep l.self) l.deps)
