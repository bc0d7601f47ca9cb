use Rattle.std.proofs.Common.{◌≡◌, ◌++◌, take, map}
use Rattle.rl_names.proofs.packing.push_expanded.Given as goal

abbrev pub invariant-parts : goal.invariant-parts
invariant-parts l = l.names.items ≡ l.fn.names.items ++ map (λ part. l.front ++ part) (map (λ x. x.now) (take l.part-index l.part-items))
