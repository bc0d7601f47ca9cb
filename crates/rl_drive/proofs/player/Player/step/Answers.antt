use Rattle.std.proofs.lemmas.Result.{on_err_weaker, on_ok_weaker}
use Rattle.rl_drive.proofs.PlayingLemmas.{plays, stops, stops_early}
use Rattle.rl_drive.proofs.RunningLemmas.{on_any_err}
use Rattle.rl_drive.proofs.player.Player.step.Goals as goal

pub returns-in_err-take_in-clause-stops : goal.returns-in_err-take_in-clause-stops
returns-in_err-take_in-clause-stops g c =
    on_any_err c.from_residual.result
    (stops_early (g.O.Hears.says c.args.observers.now) c.args.step.now c.args.self.now (g.O.Hears.told c.args.observers.now))

pub returns-clause-plays : goal.returns-clause-plays
returns-clause-plays g c = on_ok_weaker c.run_due.result
    (λ dues. plays (g.O.Hears.says c.args.observers.now) c.args.step.now c.args.self.now c.take_in.new.self c.run_due.new.self c.args.out.now.items
    c.take_in.new.out.items c.run_due.new.out.items (g.O.Hears.told c.args.observers.now) (g.O.Hears.told c.run_due.new.observers)
    c.in_ok-take_in.ensures dues)
    c.run_due.ensures.runs

pub returns-clause-stops : goal.returns-clause-stops
returns-clause-stops g c = on_err_weaker c.run_due.result
    (λ halts. stops (g.O.Hears.says c.args.observers.now) c.args.step.now c.args.self.now c.take_in.new.self c.args.out.now.items
    c.take_in.new.out.items (g.O.Hears.told c.args.observers.now) (g.O.Hears.told c.run_due.new.observers) c.in_ok-take_in.ensures halts)
    c.run_due.ensures.stops
