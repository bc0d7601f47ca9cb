use Rattle.std.proofs.Common.{rules, Err, ap}
use Rattle.rl_http.proofs.RepliesLemmas.{edit_accepted, edit_refused}
use Rattle.rl_http.proofs.replies.make_edit.Goals as goal

pub returns-in-Ok-clause-replies : goal.returns-in-Ok-clause-replies
returns-in-Ok-clause-replies g c = edit_accepted _ _ _ _ _ c.in-Ok.ensures.answer (search rules)

pub returns-in_ok-refusal-in-Err-clause-replies : goal.returns-in_ok-refusal-in-Err-clause-replies
returns-in_ok-refusal-in-Err-clause-replies g c =
    edit_refused _ _ _ _ c.in-Err.error
    (λ e. let h = c.refuse_edit.ensures.memory e in let k = rw c.in_ok-refusal-in-Err.was at h in cc)
    c.in-Err.ensures.answer.0
    (λ e. c.in-Err.ensures.failed (ap Err e))
    c.in-Err.ensures.answer.1
    c.in_ok-refusal-in-Err.ensures.text
