use Rattle.std.proofs.Common.{◌≡◌, ◌∙◌, ap, ap₂, sym, subst, List, Err, None, reverse}
use Rattle.std.proofs.lemmas.Result.{err_from_is_err_and}
use Rattle.rl_view_spec.specs.Closure.{Text, Registered}
use Rattle.rl_view_spec.specs.View.{Throws}
use Rattle.rl_registry.specs.Answered.{Registers}
use Rattle.rl_script.specs.Reads.{Tells}
use Rattle.rl_script_spec.specs.Output.{all_ready, events_of, output_of}
use Rattle.rl_script_spec.specs.Script.{BadLine, first_fault, lines_of, registered_in, steps_in, verdict_of}
use Rattle.rl_script_spec.specs.Unready.{unready_of}
use Rattle.rl_script_spec.specs.declared.Step.{Step}
use Rattle.rl_view.specs.Heard.{HearsFront, after_hearing, executions, throws_by, watched}
use Rattle.rl_drive.specs.Hearing.{executions_in}
use Rattle.rl_drive.proofs.ConcludingLemmas.{at_fault, executions_are, is_played, no_registry, no_text, said, told, unread_unheard, unregistered_unheard}
use Rattle.rl_drive.proofs.script.drive.Goals as goal

pub returns-in_default-clause-verdict : goal.returns-in_default-clause-verdict
returns-in_default-clause-verdict g c = λ refusal p.
    let throws : Throws = throws_by (g.O.Hears.says c.args.observers.now) in
    told (BadLine 0 c.number.result) refusal (verdict_of throws c.args.bytes.now) p
    (no_text throws c.args.bytes.now c.in_default.ensures.cases.0 ∙ ap (BadLine 0) (sym c.number.ensures))

pub returns-in_err-rows-clause-verdict : goal.returns-in_err-rows-clause-verdict
returns-in_err-rows-clause-verdict g c =
    let p = err_from_is_err_and c.from_residual.result c.from_residual.ensures.1 in
    rw (p.1, p.2)
    (at_fault (throws_by (g.O.Hears.says c.args.observers.now)) c.args.bytes.now c.in_err-rows.field-0.0 c.in-Ok.ensures.cases.1
    (subst (λ (bytes : Text). Tells c.in_err-rows.field-0.0 (first_fault 0 (lines_of bytes))) c.in-Ok.ensures.cases.0 c.in_err-rows.ensures.answer))

pub returns-in_err-rows-clause-heard : goal.returns-in_err-rows-clause-heard
returns-in_err-rows-clause-heard g c =
    let p = err_from_is_err_and c.from_residual.result c.from_residual.ensures.1 in
    rw (p.1, p.2)
    (unread_unheard c.in_err-rows.field-0.0 (executions_in (throws_by (g.O.Hears.says c.args.observers.now)) c.args.bytes.now)
    (g.O.Hears.told c.args.observers.now))

pub returns-in_err-registry-clause-verdict : goal.returns-in_err-registry-clause-verdict
returns-in_err-registry-clause-verdict g c =
    let p = err_from_is_err_and c.from_residual-in_err-registry.result c.from_residual-in_err-registry.ensures.1 in
    let text : c.in-Ok.text.now ≡ c.args.bytes.now = c.in-Ok.ensures.cases.0 in
    rw (p.1, p.2)
    (no_registry (throws_by (g.O.Hears.says c.args.observers.now)) c.args.bytes.now (said c.in_ok-rows.field-0.rows c.in_ok-rows.field-0.features)
    c.in_err-registry.field-0.0 c.in-Ok.ensures.cases.1
    (subst (λ (bytes : Text). first_fault 0 (lines_of bytes) ≡ None) text c.in_ok-rows.ensures.answer.whole)
    (ap (λ (bytes : Text). registered_in (lines_of bytes)) (sym text) ∙ c.in_ok-rows.ensures.answer.registered)
    (subst (λ (features : List Text). Registers (Err c.in_err-registry.field-0.0) c.in_ok-rows.field-0.rows.items features) c.as_slice.ensures.value
    c.in_err-registry.ensures))

pub returns-in_err-registry-clause-heard : goal.returns-in_err-registry-clause-heard
returns-in_err-registry-clause-heard g c =
    let p = err_from_is_err_and c.from_residual-in_err-registry.result c.from_residual-in_err-registry.ensures.1 in
    rw (p.1, p.2)
    (unregistered_unheard c.in_err-registry.field-0.0 (executions_in (throws_by (g.O.Hears.says c.args.observers.now)) c.args.bytes.now)
    (g.O.Hears.told c.args.observers.now))

pub returns-in_err-driven-clause-heard : goal.returns-in_err-driven-clause-heard
returns-in_err-driven-clause-heard g c =
    let p = err_from_is_err_and c.from_residual-in_err-driven.result c.from_residual-in_err-driven.ensures.1 in
    let says = g.O.Hears.says c.args.observers.now in
    let text : c.in-Ok.text.now ≡ c.args.bytes.now = c.in-Ok.ensures.cases.0 in
    let r : Registered = said c.in_ok-rows.field-0.rows c.in_ok-rows.field-0.features in
    let registry : c.in_ok-registry.registry ≡ r = c.in_ok-registry.ensures.1
    ∙ ap (λ (features : List Text). record { rows = c.in_ok-rows.field-0.rows.items; features = features }) c.as_slice.ensures.value in
    let same : executions (watched says c.in_ok-registry.registry) (events_of c.in_ok-registry.registry (reverse c.as_slice-2.result.now))
    ≡ executions_in (throws_by says) c.args.bytes.now =
    ap₂ (λ (r : Registered) (steps : List Step). executions (watched says r) (events_of r (reverse steps))) registry c.as_slice-2.ensures.value
    ∙ executions_are says c.args.bytes.now r c.in_ok-rows.field-0.steps.items
    (ap (λ (bytes : Text). registered_in (lines_of bytes)) (sym text) ∙ c.in_ok-rows.ensures.answer.registered)
    (ap (λ (bytes : Text). steps_in (lines_of bytes)) (sym text) ∙ c.in_ok-rows.ensures.answer.steps) in
    rw (p.1, p.2)
    (subst (λ (heard : List _). HearsFront heard (g.O.Hears.told c.args.observers.now) (g.O.Hears.told c.play.new.observers)) same
    c.in_err-driven.ensures.heard)

pub returns-clause-verdict : goal.returns-clause-verdict
returns-clause-verdict g c =
    let says = g.O.Hears.says c.args.observers.now in
    let text : c.in-Ok.text.now ≡ c.args.bytes.now = c.in-Ok.ensures.cases.0 in
    let r : Registered = said c.in_ok-rows.field-0.rows c.in_ok-rows.field-0.features in
    let registry : c.in_ok-registry.registry ≡ r = c.in_ok-registry.ensures.1
    ∙ ap (λ (features : List Text). record { rows = c.in_ok-rows.field-0.rows.items; features = features }) c.as_slice.ensures.value in
    is_played (throws_by says) c.args.bytes.now r c.in_ok-rows.field-0.steps.items c.in_ok-driven.driven.text.items c.in_ok-driven.driven.ready
    c.in-Ok.ensures.cases.1
    (subst (λ (bytes : Text). first_fault 0 (lines_of bytes) ≡ None) text c.in_ok-rows.ensures.answer.whole)
    (ap (λ (bytes : Text). registered_in (lines_of bytes)) (sym text) ∙ c.in_ok-rows.ensures.answer.registered)
    (ap (λ (bytes : Text). steps_in (lines_of bytes)) (sym text) ∙ c.in_ok-rows.ensures.answer.steps)
    c.in_ok-registry.ensures.0
    (c.in_ok-driven.ensures.text
    ∙ ap₂ (λ (r : Registered) (steps : List Step). output_of (watched says r) (reverse steps)) registry c.as_slice-2.ensures.value)
    (c.in_ok-driven.ensures.ready
    ∙ ap₂ (λ (r : Registered) (steps : List Step). all_ready (watched says r) (reverse steps)) registry c.as_slice-2.ensures.value)

pub returns-clause-unready : goal.returns-clause-unready
returns-clause-unready g c =
    let says = g.O.Hears.says c.args.observers.now in
    let text : c.in-Ok.text.now ≡ c.args.bytes.now = c.in-Ok.ensures.cases.0 in
    let r : Registered = said c.in_ok-rows.field-0.rows c.in_ok-rows.field-0.features in
    let registry : c.in_ok-registry.registry ≡ r = c.in_ok-registry.ensures.1
    ∙ ap (λ (features : List Text). record { rows = c.in_ok-rows.field-0.rows.items; features = features }) c.as_slice.ensures.value in
    c.in_ok-driven.ensures.unready
    ∙ ap₂ (λ (r : Registered) (steps : List Step). unready_of (watched says r) (reverse steps)) registry c.as_slice-2.ensures.value
    ∙ ap₂ (λ (r : Registered) (steps : List Step). unready_of (watched says r) (reverse steps))
    (sym (ap (λ (bytes : Text). registered_in (lines_of bytes)) (sym text) ∙ c.in_ok-rows.ensures.answer.registered))
    (sym (ap (λ (bytes : Text). steps_in (lines_of bytes)) (sym text) ∙ c.in_ok-rows.ensures.answer.steps))

pub returns-clause-heard : goal.returns-clause-heard
returns-clause-heard g c =
    let says = g.O.Hears.says c.args.observers.now in
    let text : c.in-Ok.text.now ≡ c.args.bytes.now = c.in-Ok.ensures.cases.0 in
    let r : Registered = said c.in_ok-rows.field-0.rows c.in_ok-rows.field-0.features in
    let registry : c.in_ok-registry.registry ≡ r = c.in_ok-registry.ensures.1
    ∙ ap (λ (features : List Text). record { rows = c.in_ok-rows.field-0.rows.items; features = features }) c.as_slice.ensures.value in
    let same : executions (watched says c.in_ok-registry.registry) (events_of c.in_ok-registry.registry (reverse c.as_slice-2.result.now))
    ≡ executions_in (throws_by says) c.args.bytes.now =
    ap₂ (λ (r : Registered) (steps : List Step). executions (watched says r) (events_of r (reverse steps))) registry c.as_slice-2.ensures.value
    ∙ executions_are says c.args.bytes.now r c.in_ok-rows.field-0.steps.items
    (ap (λ (bytes : Text). registered_in (lines_of bytes)) (sym text) ∙ c.in_ok-rows.ensures.answer.registered)
    (ap (λ (bytes : Text). steps_in (lines_of bytes)) (sym text) ∙ c.in_ok-rows.ensures.answer.steps) in
    c.in_ok-driven.ensures.heard ∙ ap (λ (heard : List _). after_hearing heard (g.O.Hears.told c.args.observers.now)) same
