use Rattle.std.proofs.Common.{rules, arith}
use Rattle.std.proofs.lemmas.Grind.{common_steps}
use Rattle.rl_defs.proofs.draft.settled_modules.Goals as goal

pub drafts-preserved : goal.drafts-preserved
drafts-preserved c = (grind (arith, common_steps, c.drafts.invariant.0), search rules)
