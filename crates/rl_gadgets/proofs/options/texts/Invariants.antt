use Rattle.std.proofs.Common.{◌≡◌, take, map}
use Rattle.rl_gadgets.proofs.options.texts.Given as goal

abbrev pub invariant-words : goal.invariant-words
invariant-words l = l.texts.items ≡ map (λ x. x.now) (take l.word-index l.words)
