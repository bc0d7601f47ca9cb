use Rattle.std.proofs.Common.{◌∙◌, ap}
use Rattle.rl_book_spec.specs.Kept.{registered_in}
use Rattle.rl_book.proofs.LookingLemmas.{registered_is}
use Rattle.rl_book.proofs.visit.Visit.registry.Goals as goal

pub returns : goal.returns
returns c = c.registry.ensures ∙ registered_is c.self.inside c.self.invariant ∙ ap registered_in c.self.view_is
