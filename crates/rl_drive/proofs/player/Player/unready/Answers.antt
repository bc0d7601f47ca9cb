use Rattle.std.proofs.Common.{◌≡◌, ◌∙◌, None, Some, reverse, sym}
use Rattle.std.proofs.lemmas.Result.{IfOk-weaker}
use Rattle.rl_view_spec.specs.View.{View}
use Rattle.rl_script_spec.specs.Output.{events_of}
use Rattle.rl_script_spec.specs.Unready.{held_up, unready_of}
use Rattle.rl_script_spec.proofs.OrderLemmas.{steps_lawful}
use Rattle.rl_drive.specs.Blamed.{AsSeen}
use Rattle.rl_drive.specs.Player.{HasPlayed}
use Rattle.rl_drive.proofs.UnreadyLemmas.{found_resolves, told_held, told_refused}
use Rattle.rl_drive.proofs.player.Player.unready.Goals as goal

pub returns-in-Some : goal.returns-in-Some
returns-in-Some c = λ v played.
    sym (told_refused v c.args.steps.now c.args.self.now played c.in-Some.told
    (sym (c.in_ok-told.ensures v (events_of v.registered (reverse c.args.steps.now)) (steps_lawful v (reverse c.args.steps.now)) played)
    ∙ c.in-Some.is))

pub held_up-requires-clause-resolved : goal.held_up-requires-clause-resolved
held_up-requires-clause-resolved c =
    let v : View = c.requires.played.0 in
    found_resolves v c.args.steps.now c.args.self.now c.requires.played.1 c.in-Some-first_unready.name.now
    (sym (c.in_ok-told.ensures v (events_of v.registered (reverse c.args.steps.now)) (steps_lawful v (reverse c.args.steps.now)) c.requires.played.1)
    ∙ c.in_default.is)
    (sym c.in-Some-first_unready.ensures)

pub returns-in-Some-first_unready : goal.returns-in-Some-first_unready
returns-in-Some-first_unready c =
    IfOk-weaker c.held_up.result (λ told. AsSeen c.args.self.now (λ v past. told ≡ held_up v past c.in-Some-first_unready.name.now))
    (λ told. (v : View) → HasPlayed v (reverse c.args.steps.now) c.args.self.now → told ≡ unready_of v (reverse c.args.steps.now))
    (λ told says v played.
    says v (events_of v.registered (reverse c.args.steps.now)) (steps_lawful v (reverse c.args.steps.now)) played
    ∙ sym (told_held v c.args.steps.now c.args.self.now played (Some c.in-Some-first_unready.name.now)
    (sym (c.in_ok-told.ensures v (events_of v.registered (reverse c.args.steps.now)) (steps_lawful v (reverse c.args.steps.now)) played)
    ∙ c.in_default.is)
    (sym c.in-Some-first_unready.ensures)))
    c.held_up.ensures

pub returns-in-None : goal.returns-in-None
returns-in-None c = λ v played.
    sym (told_held v c.args.steps.now c.args.self.now played None
    (sym (c.in_ok-told.ensures v (events_of v.registered (reverse c.args.steps.now)) (steps_lawful v (reverse c.args.steps.now)) played)
    ∙ c.in_default.is)
    (sym c.in-None.ensures))
