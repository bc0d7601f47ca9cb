use Rattle.std.proofs.Common.{refl}
use Rattle.rl_build.specs.BuiltIn.{built_ins}
use Rattle.rl_build.proofs.built_in.built_ins.Goals as goal

pub returns : goal.returns
unfolding built_ins
returns c = refl
