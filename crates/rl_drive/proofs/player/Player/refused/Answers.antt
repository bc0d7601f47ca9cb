use Rattle.std.proofs.Common.{◌∙◌, None, Some, ap, refl, sym}
use Rattle.std.specs.List.{list_all}
use Rattle.rl_view_spec.specs.Closure.{Registered, Unknown, Cycle, refusal_of}
use Rattle.rl_drive.specs.Played.{is_ready_at}
use Rattle.rl_drive.proofs.UnreadyLemmas.{asked_told, ready_told}
use Rattle.rl_drive.proofs.player.Player.refused.Goals as goal

pub returns-then-are_ready : goal.returns-then-are_ready
returns-then-are_ready c = λ v past lawful s.
    ready_told v past c.args.self.now c.args.number c.args.step.now lawful s
    (ap (list_all (is_ready_at c.args.self.now.table)) (sym c.names_of-names.ensures) ∙ sym c.are_ready.ensures ∙ c.if-are_ready.true)

pub returns-in-Ok : goal.returns-in-Ok
returns-in-Ok c = λ v past lawful s.
    asked_told v past c.args.self.now c.args.number c.args.step.now c.names_of-names.result.now None s
    (ap (λ (r : Registered). refusal_of r c.names_of-names.result.now) (sym c.registry.ensures) ∙ c.in-Ok.ensures.0) c.names_of-names.ensures

pub returns-in-Err-Unknown : goal.returns-in-Err-Unknown
returns-in-Err-Unknown c = λ v past lawful s.
    let e = (rw c.in-Err-Unknown.field-0-is at c.in-Err-Unknown.ensures) (Unknown c.in-Err-Unknown.name) refl in
    asked_told v past c.args.self.now c.args.number c.args.step.now c.names_of-names.result.now (Some (Unknown c.in-Err-Unknown.name)) s
    (ap (λ (r : Registered). refusal_of r c.names_of-names.result.now) (sym c.registry.ensures) ∙ e) c.names_of-names.ensures

pub returns-in-Err-Cycle : goal.returns-in-Err-Cycle
returns-in-Err-Cycle c = λ v past lawful s.
    let e = (rw c.in-Err-Cycle.field-0-is at c.in-Err-Cycle.ensures) (Cycle c.in-Err-Cycle.name) refl in
    asked_told v past c.args.self.now c.args.number c.args.step.now c.names_of-names.result.now (Some (Cycle c.in-Err-Cycle.name)) s
    (ap (λ (r : Registered). refusal_of r c.names_of-names.result.now) (sym c.registry.ensures) ∙ e) c.names_of-names.ensures
