use Rattle.std.proofs.Common.{List, ap, refl, sym, ◌∙◌, Option}
use Rattle.std.specs.Prelude.{is_none}
use Rattle.rl_view_spec.specs.Closure.{Text, Refusal, Unknown, Cycle, refusal_of}
use Rattle.rl_book.proofs.requesting.does_resolve.Goals as goal

pub returns-in-Err-Unknown : goal.returns-in-Err-Unknown
returns-in-Err-Unknown c =
    let e = (rw c.in-Err-Unknown.field-0-is at c.in-Err-Unknown.ensures) (Unknown c.in-Err-Unknown.field-0-0) refl in
    sym (ap (λ (found : Option Refusal). is_none found) e)
    ∙ ap (λ (names : List Text). is_none (refusal_of c.args.registry.now names)) c.from_ref.ensures.value

pub returns-in-Err-Cycle : goal.returns-in-Err-Cycle
returns-in-Err-Cycle c =
    let e = (rw c.in-Err-Cycle.field-0-is at c.in-Err-Cycle.ensures) (Cycle c.in-Err-Cycle.field-0-0) refl in
    sym (ap (λ (found : Option Refusal). is_none found) e)
    ∙ ap (λ (names : List Text). is_none (refusal_of c.args.registry.now names)) c.from_ref.ensures.value
