use Rattle.std.proofs.Common.{◌≡◌, ◌++◌, take, map}
use Rattle.rl_names.proofs.packing.push_copies.Given as goal

abbrev pub invariant-names : goal.invariant-names
invariant-names l = l.order.items ≡ l.fn.order.items ++ map (λ n. n.now) (take l.name-index l.group)
