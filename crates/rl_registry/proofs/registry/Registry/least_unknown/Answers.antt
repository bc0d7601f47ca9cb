use Rattle.std.proofs.Common.{arith}
use Rattle.std.proofs.lemmas.Grind.{common_steps}
use Rattle.rl_rows.proofs.LeastLemmas.{found_append}
use Rattle.rl_registry.proofs.registry.Registry.least_unknown.Goals as goal

pub loop-row-init : goal.loop-row-init
loop-row-init c = grind (arith, common_steps, found_append)

pub loop-row-preserved : goal.loop-row-preserved
loop-row-preserved c = grind (arith, common_steps, found_append)
