use Rattle.std.proofs.Common.{◌≡◌, ◌∙◌, List, None, Some, ap₂, refl, sym}
use Rattle.rl_view_spec.specs.Closure.{Text, Registered, Refusal, Unknown, Cycle, refusal_of}
use Rattle.rl_drive.proofs.player.Player.closure.Goals as goal

nothing : (refusal : Refusal) → None ≡ Some refusal → ⊥
nothing refusal e = cc

pub unreachable-requires : goal.unreachable-requires
unreachable-requires c =
    let e = (rw c.in-Err-Unknown.field-0-is at c.in-Err-Unknown.ensures) (Unknown c.in-Err-Unknown.field-0-0) refl in
    nothing (Unknown c.in-Err-Unknown.field-0-0)
    (sym c.requires ∙ ap₂ (λ (r : Registered) (names : List Text). refusal_of r names) (sym c.registry.ensures) (sym c.from_ref.ensures.value) ∙ e)

pub unreachable-requires-in-Err-Cycle : goal.unreachable-requires-in-Err-Cycle
unreachable-requires-in-Err-Cycle c =
    let e = (rw c.in-Err-Cycle.field-0-is at c.in-Err-Cycle.ensures) (Cycle c.in-Err-Cycle.field-0-0) refl in
    nothing (Cycle c.in-Err-Cycle.field-0-0)
    (sym c.requires ∙ ap₂ (λ (r : Registered) (names : List Text). refusal_of r names) (sym c.registry.ensures) (sym c.from_ref.ensures.value) ∙ e)
