use Rattle.std.proofs.Common.{ap}
use Rattle.rl_pages.specs.Refusals.{checked_choice}
use Rattle.rl_wiki.proofs.DeskLemmas.{choice_turned}
use Rattle.rl_wiki.proofs.desk.Desk.set_choice.Goals as goal

pub returns-in_err-entry-clause-answer : goal.returns-in_err-entry-clause-answer
returns-in_err-entry-clause-answer g c =
    let entries = c.self.inside.pages.entries in
    let refused = choice_turned c.in_err-entry.field-0.0 c.from_residual.result
    (checked_choice entries c.args.viewer.now c.args.key.now c.args.value.now) entries c.check_choice.new.self.entries
    c.from_residual.ensures.1 c.in_err-entry.ensures.answer (ap (λ pages. pages.entries) c.in_err-entry.ensures.refused) in
    rw (← c.self.view_is) refused
