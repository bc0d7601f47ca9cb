use Rattle.std.proofs.Common.{◌≡◌, take, map, string_bytes}
use Rattle.std.specs.List.{join_with_byte}
use Rattle.rl_names.specs.Grouping.{group_written}
use Rattle.rl_names.proofs.packing.written.Given as goal

abbrev pub invariant-groups : goal.invariant-groups
invariant-groups l = string_bytes l.out ≡ join_with_byte 124 (map (λ group. group_written (map (λ n. n.now) group.items)) (take l.i l.groups))
