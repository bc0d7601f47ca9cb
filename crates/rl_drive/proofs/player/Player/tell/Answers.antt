use Rattle.std.proofs.Common.{◌≡◌, Option, None, ap, arith, sym, ◌∙◌}
use Rattle.std.specs.Prelude.{option_to_list}
use Rattle.rl_names.specs.declared.name.Key.{Key}
use Rattle.rl_view_spec.specs.Closure.{Text}
use Rattle.rl_view.specs.Heard.{after_hearing}
use Rattle.rl_drive.specs.Given.{execution_in}
use Rattle.rl_drive.specs.Played.{execution_at}
use Rattle.rl_drive.specs.Player.{held}
use Rattle.rl_drive.proofs.GivenLemmas.{given_there}
use Rattle.rl_drive.proofs.HearingLemmas.{heard_nothing}
use Rattle.rl_drive.proofs.player.Player.tell.Goals as goal

pub returns-in-None-clause-told : goal.returns-in-None-clause-told
returns-in-None-clause-told g c =
    let none : execution_at (held c.args.self.now) c.args.row ≡ None =
    given_there c.args.self.now.given.items c.args.row c.index.result.now (omega arith) ∙ ap execution_in (sym c.index.ensures ∙ c.in-None.is) in
    heard_nothing (g.O.Hears.told c.args.observers.now)
    ∙ ap (λ (o : Option (Key × Text)). after_hearing (option_to_list o) (g.O.Hears.told c.args.observers.now)) (sym none)
