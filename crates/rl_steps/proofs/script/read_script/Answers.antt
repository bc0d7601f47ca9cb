use Rattle.std.proofs.Common.{◌≡◌, ◌∙◌, ap, sym, subst, Some, None}
use Rattle.std.proofs.lemmas.Result.{err_from_is_err_and}
use Rattle.rl_view_spec.specs.Closure.{Text}
use Rattle.rl_steps.specs.Script.{first_fault, lack_of, lines_of, refusal, steps_in}
use Rattle.rl_steps.proofs.ConcludingLemmas.{at_fault, is_whole, lacking, no_text}
use Rattle.rl_steps.proofs.script.read_script.Goals as goal

pub returns-in_default : goal.returns-in_default
returns-in_default c = λ why is.
    no_text c.args.kinds c.args.bytes.now why c.in_default.ensures.cases.0 (sym (ap refusal c.bad.ensures) ∙ is)

pub returns-in_err-steps : goal.returns-in_err-steps
returns-in_err-steps c =
    let p = err_from_is_err_and c.from_residual.result c.from_residual.ensures.1 in
    rw (p.1, p.2) (λ why is. at_fault c.args.kinds c.args.bytes.now c.in-Ok.ensures.cases.1 why
    (subst (λ (text : Text). first_fault c.args.kinds 0 (lines_of text) ≡ Some why) c.in-Ok.ensures.cases.0 (c.in_err-steps.ensures why is)))

pub returns-in_err-check_whole : goal.returns-in_err-check_whole
returns-in_err-check_whole c =
    let p = err_from_is_err_and c.from_residual-in_err-check_whole.result c.from_residual-in_err-check_whole.ensures.1 in
    let read = subst (λ (text : Text). (first_fault c.args.kinds 0 (lines_of text) ≡ None) × (c.in_ok-steps.steps.items ≡ steps_in (lines_of text)))
    c.in-Ok.ensures.cases.0 c.in_ok-steps.ensures in
    rw (p.1, p.2) (λ why is. lacking c.args.kinds c.args.bytes.now c.in-Ok.ensures.cases.1 c.in_ok-steps.steps.items why read.0 read.1
    (ap (lack_of c.args.kinds) (sym c.as_slice.ensures.value) ∙ c.in_err-check_whole.ensures why is))

pub returns : goal.returns
returns c =
    let read = subst (λ (text : Text). (first_fault c.args.kinds 0 (lines_of text) ≡ None) × (c.in_ok-steps.steps.items ≡ steps_in (lines_of text)))
    c.in-Ok.ensures.cases.0 c.in_ok-steps.ensures in
    is_whole c.args.kinds c.args.bytes.now c.in-Ok.ensures.cases.1 c.in_ok-steps.steps.items read.0 read.1
    (ap (lack_of c.args.kinds) (sym c.as_slice.ensures.value) ∙ c.in_ok-check_whole.ensures)
