use Rattle.std.proofs.Common.{◌≡◌, take, map, flat_map}
use Rattle.rl_names.proofs.packing.packed_order.Given as goal

abbrev pub invariant-groups : goal.invariant-groups
invariant-groups l = l.order.items ≡ flat_map (λ group. map (λ n. n.now) group.items) (take l.group-index l.group-items)
