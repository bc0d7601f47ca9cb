use Rattle.std.proofs.Common.{◌≡◌, ◌-◌, List, ℕ, length}
use Rattle.rl_names.specs.declared.name.Key.{Key}
use Rattle.rl_book.specs.Calls.{HasExecuted}
use Rattle.rl_book.proofs.visit.Visit.resume.Given as goal

abbrev pub invariant-runs : goal.invariant-runs
invariant-runs g l =
    record {
      so_far : HasExecuted (g.O.Hears.says l.fn.observers) l.fn.self l.self (g.O.Hears.told l.fn.observers) (g.O.Hears.told l.observers);
      fixed : (k : Key) (s : List ℕ) → g.O.Hears.says l.observers k s ≡ g.O.Hears.says l.fn.observers k s;
      same : (first : _) → g.O.Hears.same first l.fn.observers → g.O.Hears.same first l.observers;
    }

abbrev pub decreases-runs : goal.decreases-runs
decreases-runs g l = length l.self.opening.registered.rows - length l.self.ran
