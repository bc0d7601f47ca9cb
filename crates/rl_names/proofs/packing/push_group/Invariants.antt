use Rattle.std.proofs.Common.{◌≡◌, ◌++◌, take, map, string_bytes}
use Rattle.rl_names.specs.Grouping.{group_written}
use Rattle.rl_names.proofs.packing.push_group.Given as goal

abbrev pub invariant-names : goal.invariant-names
invariant-names l = string_bytes l.out ≡ string_bytes l.fn.out ++ group_written (map (λ n. n.now) (take l.i l.group))
