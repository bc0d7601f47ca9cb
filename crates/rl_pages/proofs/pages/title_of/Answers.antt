use Rattle.std.proofs.Common.{refl, ap}
use Rattle.rl_names.specs.Title.{no_title_told}
use Rattle.rl_pages.proofs.pages.title_of.Goals as goal

pub returns-in-Err-BadTitle-clause-refused : goal.returns-in-Err-BadTitle-clause-refused
returns-in-Err-BadTitle-clause-refused c = λ h. (refl, c.in-Err-BadTitle.ensures tt (ap no_title_told c.in-Err-BadTitle.field-0-is))
