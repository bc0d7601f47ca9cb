use Rattle.std.proofs.Common.{ap}
use Rattle.rl_pages.specs.Refusals.{kept_refusal}
use Rattle.rl_pages.specs.declared.refusals.KeptError.TheVariants.{BadEntry}
use Rattle.rl_wiki.proofs.opening.take_one.Goals as goal

pub returns-in-Err-BadEntry-clause-bad : goal.returns-in-Err-BadEntry-clause-bad
returns-in-Err-BadEntry-clause-bad c = λ refused. (c.in-Err-BadEntry.ensures.answer BadEntry (ap kept_refusal c.in-Err-BadEntry.field-0-is), c.in-Err-BadEntry.ensures.refused)
