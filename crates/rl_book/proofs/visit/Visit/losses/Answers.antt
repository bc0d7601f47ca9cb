use Rattle.std.proofs.Common.{◌∙◌, sym}
use Rattle.rl_book.proofs.CallsLemmas.{open_found}
use Rattle.rl_book.proofs.visit.Visit.losses.Goals as goal

pub returns-else-asked-clause-ok : goal.returns-else-asked-clause-ok
returns-else-asked-clause-ok c =
    open_found c.self.inside c.args.self.now c.args.ask c.in-Some.asked c.in-Some.sent.now c.self.invariant c.self.view_is
    (sym c.in-Some.ensures.value) (sym c.is_settled.ensures ∙ c.if-is_settled.false) c.if-asked.false
