use Rattle.std.proofs.Common.{◌≡◌, List, ℕ}
use Rattle.rl_names.specs.declared.name.Key.{Key}
use Rattle.rl_view.proofs.RunsLemmas.{left}
use Rattle.rl_drive.proofs.RunningLemmas.{SoFar}
use Rattle.rl_drive.proofs.player.Player.run_due.Given as goal

abbrev pub invariant-runs : goal.invariant-runs
invariant-runs g l =
    record {
      so_far : SoFar (g.O.Hears.says l.fn.observers) l.fn.self l.self l.fn.out.items l.out.items (g.O.Hears.told l.fn.observers) (g.O.Hears.told l.observers);
      fixed : (k : Key) (s : List ℕ) → g.O.Hears.says l.observers k s ≡ g.O.Hears.says l.fn.observers k s;
      same : (first : _) → g.O.Hears.same first l.fn.observers → g.O.Hears.same first l.observers;
    }

abbrev pub decreases-runs : goal.decreases-runs
decreases-runs g l = left l.self.table
