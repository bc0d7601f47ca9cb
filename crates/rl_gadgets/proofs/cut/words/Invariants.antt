use Rattle.std.proofs.Common.{◌≡◌, take, map}
use Rattle.rl_gadgets.specs.Cut.{trimmed}
use Rattle.rl_gadgets.proofs.cut.words.Given as goal

abbrev pub invariant-pieces : goal.invariant-pieces
invariant-pieces l = map (λ x. x.now) l.words.items ≡ map trimmed (map (λ x. x.now) (take l.piece-index l.piece-items))
