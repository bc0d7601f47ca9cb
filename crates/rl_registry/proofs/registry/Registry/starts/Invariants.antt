use Rattle.std.proofs.Common.{◌≡◌, ◌++◌, drop}
use Rattle.std.specs.List.{filter_map}
use Rattle.rl_view_spec.specs.Numbers.{number_of}
use Rattle.rl_registry.proofs.registry.Registry.starts.Given as goal

abbrev pub invariant-loop-name : goal.invariant-loop-name
invariant-loop-name l = l.starts.items ++ filter_map (number_of l.self) (drop l.name-index l.names) ≡ filter_map (number_of l.self) l.names
