use Rattle.std.proofs.Common.{◌≡◌, take, map, option_map}
use Rattle.rl_gadgets.specs.Line.{last_value}
use Rattle.rl_gadgets.proofs.options.last_value.Given as goal

abbrev pub invariant-options : goal.invariant-options
invariant-options l = option_map (λ value. value.now) l.last ≡ last_value l.key (map (λ x. x.now) (take l.option-index l.options))
