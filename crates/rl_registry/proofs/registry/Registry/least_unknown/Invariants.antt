use Rattle.std.proofs.Common.{◌≡◌, ◌++◌, None, drop}
use Rattle.std.specs.Prelude.{flat_map, option_map}
use Rattle.rl_registry.specs.Search.{unknown, unknown_of}
use Rattle.rl_rows.specs.Least.{least_from}
use Rattle.rl_registry.proofs.registry.Registry.least_unknown.Given as goal

abbrev pub invariant-loop-name : goal.invariant-loop-name
invariant-loop-name l =
    least_from (option_map (λ name. name.now) l.found) (unknown l.self (drop l.name-index l.names)) ≡ least_from None (unknown l.self l.names)

abbrev pub invariant-loop-row : goal.invariant-loop-row
invariant-loop-row l =
    least_from (option_map (λ name. name.now) l.found) (flat_map (unknown_of l.self) (drop l.row-index l.rows))
    ≡ least_from None (unknown l.self l.names ++ flat_map (unknown_of l.self) l.rows)
