use Rattle.std.proofs.Common.{◌∙◌, ap, subst}
use Rattle.std.specs.Prelude.{is_some}
use Rattle.rl_book_spec.specs.Kept.{IsBook, is_due}
use Rattle.rl_book.proofs.LookingLemmas.{due_is}
use Rattle.rl_book.proofs.visit.Visit.due.Goals as goal

pub returns-clause-due : goal.returns-clause-due
returns-clause-due c =
    c.is_some.ensures ∙ ap is_some c.first_run.ensures ∙ due_is c.self.inside c.self.invariant ∙ ap is_due c.self.view_is

pub returns-clause-book : goal.returns-clause-book
returns-clause-book c = subst IsBook c.self.view_is c.self.invariant.book
