use Rattle.std.proofs.Common.{◌≡◌, take, map, flat_map}
use Rattle.rl_names.specs.Packing.{expand_group}
use Rattle.rl_names.proofs.packing.expand.Given as goal

abbrev pub invariant-groups : goal.invariant-groups
invariant-groups l = l.names.items ≡ flat_map expand_group (map (λ x. x.now) (take l.group-index l.group-items))
