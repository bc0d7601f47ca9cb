use Rattle.std.proofs.Common.{ap, ◌∙◌}
use Rattle.rl_drive.proofs.UnreadyLemmas.{first_named, named_none, named_some}
use Rattle.rl_drive.proofs.player.Player.first_unready.Goals as goal

pub returns-in-Some : goal.returns-in-Some
returns-in-Some c =
    c.first_unready_of.ensures ∙ ap (first_named c.args.self.now.table) c.names_of.ensures
    ∙ named_some c.args.self.now.table c.args.steps.now c.in-Some.step.now c.in-Some.ensures

pub returns-in-None : goal.returns-in-None
returns-in-None c = named_none c.args.self.now.table c.args.steps.now c.in-None.ensures
