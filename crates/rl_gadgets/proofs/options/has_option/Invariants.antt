use Rattle.std.proofs.Common.{◌≡◌, take, map, false}
use Rattle.rl_gadgets.specs.Line.{has_option}
use Rattle.rl_gadgets.proofs.options.has_option.Given as goal

abbrev pub invariant-options : goal.invariant-options
invariant-options l = has_option l.word (map (λ x. x.now) (take l.option-index l.options)) ≡ false
