use Rattle.std.proofs.Common.{ap}
use Rattle.rl_pages.specs.Refusals.{checked_edit}
use Rattle.rl_wiki.proofs.DeskLemmas.{edit_turned}
use Rattle.rl_wiki.proofs.desk.Desk.edit.Goals as goal

pub returns-in_err-entry-clause-answer : goal.returns-in_err-entry-clause-answer
returns-in_err-entry-clause-answer g c =
    let entries = c.self.inside.pages.entries in
    let refused = edit_turned c.in_err-entry.field-0.0 c.from_residual.result
    (checked_edit c.self.inside.policy.admins entries c.args.viewer.now c.args.title.now c.args.base c.args.text.now) entries
    c.check_edit.new.self.entries c.from_residual.ensures.1 c.in_err-entry.ensures.answer (ap (λ pages. pages.entries) c.in_err-entry.ensures.refused) in
    rw (← c.self.view_is, ← c.self.invariant.0) refused
