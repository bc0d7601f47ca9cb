use Rattle.std.proofs.Common.{◌≡◌, List, ℕ}
use Rattle.rl_names.specs.declared.name.Key.{Key}
use Rattle.rl_drive.proofs.PlayingLemmas.{Playing}
use Rattle.rl_drive.proofs.steps.play.Given as goal

abbrev pub invariant-loop-step : goal.invariant-loop-step
invariant-loop-step g l =
    record {
      playing : Playing (g.O.Hears.says l.fn.observers) l.fn.registry l.steps l.step-index l.player l.text.items (g.O.Hears.told l.fn.observers)
          (g.O.Hears.told l.observers);
      fixed : (k : Key) (s : List ℕ) → g.O.Hears.says l.observers k s ≡ g.O.Hears.says l.fn.observers k s;
      same : (first : _) → g.O.Hears.same first l.fn.observers → g.O.Hears.same first l.observers;
    }
