use Rattle.std.proofs.Common.{arith}
use Rattle.rl_names.proofs.HashLemmas.{five_digits}
use Rattle.rl_names.proofs.hash.version_of.Goals as goal

pub returns : goal.returns
returns c = let same = five_digits c.leading-n.result c.leading-n.ensures.five in grind arith
