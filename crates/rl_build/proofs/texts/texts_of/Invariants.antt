use Rattle.std.proofs.Common.{◌≡◌, take}
use Rattle.rl_build.proofs.texts.texts_of.Given as goal

abbrev pub invariant-names : goal.invariant-names
invariant-names l = l.texts.items ≡ take l.name-index l.names
