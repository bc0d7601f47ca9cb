use Rattle.std.proofs.Common.{◌≡◌, ◌-◌, List, Some, length, refl, ap, subst, ◌∙◌, arith}
use Rattle.rl_view_spec.specs.Closure.{Text, Registered, Unknown, Cycle, refusal_of}
use Rattle.rl_view_spec.specs.Numbers.{closure_numbers}
use Rattle.rl_view_spec.specs.Requests.{accepted_each}
use Rattle.rl_book.specs.Asking.{Touched}
use Rattle.rl_book.proofs.AskingLemmas.{dropped_are, none_refused}
use Rattle.rl_book.proofs.requesting.load.Goals as goal

pub returns-in-Ok-clause-ok : goal.returns-in-Ok-clause-ok
returns-in-Ok-clause-ok c =
    let r : Registered = c.args.table.now.registered in
    let asked : c.as_slice.result.now ≡ accepted_each r c.args.names.now =
    c.as_slice.ensures.value ∙ c.in_ok-asked.ensures ∙ ap (λ (r : Registered). accepted_each r c.args.names.now) c.registry.ensures in
    let number : c.saturating_sub-dropped.result ≡ length c.args.names.now - length c.as_slice.result.now =
    omega (arith, c.saturating_sub-dropped.ensures, c.len.ensures, c.as_slice.ensures.len) in
    record {
      dropped_are = number ∙ ap (λ (names : List Text). length c.args.names.now - length names) asked ∙ dropped_are r c.args.names.now;
      touched =
          subst (λ (names : List Text). Touched c.args.plan.now c.args.held.now.gifts (closure_numbers r names) c.args.table.now c.request.new.table
          c.args.requests.now c.request.new.requests) asked c.in-Ok.ensures.asks.1;
    }

pub unreachable-requires : goal.unreachable-requires
unreachable-requires c =
    let r : Registered = c.args.table.now.registered in
    let asked : c.as_slice.result.now ≡ accepted_each r c.args.names.now =
    c.as_slice.ensures.value ∙ c.in_ok-asked.ensures ∙ ap (λ (r : Registered). accepted_each r c.args.names.now) c.registry.ensures in
    let e = (rw c.in-Err-Unknown.field-0-is at c.in-Err-Unknown.ensures.asks) (Unknown c.in-Err-Unknown.field-0-0) refl in
    none_refused r c.args.names.now (Unknown c.in-Err-Unknown.field-0-0)
    (subst (λ (names : List Text). refusal_of r names ≡ Some (Unknown c.in-Err-Unknown.field-0-0)) asked e)

pub unreachable-requires-in-Err-Cycle : goal.unreachable-requires-in-Err-Cycle
unreachable-requires-in-Err-Cycle c =
    let r : Registered = c.args.table.now.registered in
    let asked : c.as_slice.result.now ≡ accepted_each r c.args.names.now =
    c.as_slice.ensures.value ∙ c.in_ok-asked.ensures ∙ ap (λ (r : Registered). accepted_each r c.args.names.now) c.registry.ensures in
    let e = (rw c.in-Err-Cycle.field-0-is at c.in-Err-Cycle.ensures.asks) (Cycle c.in-Err-Cycle.field-0-0) refl in
    none_refused r c.args.names.now (Cycle c.in-Err-Cycle.field-0-0)
    (subst (λ (names : List Text). refusal_of r names ≡ Some (Cycle c.in-Err-Cycle.field-0-0)) asked e)
