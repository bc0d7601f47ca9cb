use Rattle.std.proofs.Common.{◌++◌, ◌∷◌, [], refl, ◌∙◌}
use Rattle.rl_book.proofs.ExecutingLemmas.{executes_more, executes_none, fewer_left, next_row_ran, none_ran, resumed, same_says, stopped}
use Rattle.rl_book.proofs.visit.Visit.resume.Goals as goal

pub runs-init : goal.runs-init
runs-init g c = record {
  so_far = ([], executes_none (g.O.Hears.says c.args.observers.now) c.args.self.now (g.O.Hears.told c.args.observers.now));
  fixed = λ k s. refl;
  same = λ first s. s;
}

pub returns-in_err-run_next-clause-runs : goal.returns-in_err-run_next-clause-runs
returns-in_err-run_next-clause-runs g c =
    stopped (g.O.Hears.says c.args.observers.now) c.args.self.now c.runs.self c.run_next.new.self (g.O.Hears.told c.args.observers.now)
    (g.O.Hears.told c.runs.observers) (g.O.Hears.told c.run_next.new.observers) c.runs.invariant.so_far c.in_err-run_next.ensures.runs.1
    c.in_err-run_next.ensures.runs.2 c.from_residual.result c.from_residual.ensures.0 c.in_err-run_next.ensures.runs.0

pub runs-preserved : goal.runs-preserved
runs-preserved g c =
    let before = c.runs.invariant.so_far in
    let next = next_row_ran (g.O.Hears.says c.runs.observers) (g.O.Hears.says c.args.observers.now) c.in_ok-run_next.field-0 c.runs.self
    c.run_next.new.self (g.O.Hears.told c.runs.observers) (g.O.Hears.told c.run_next.new.observers) c.if-branch.true
    (same_says (g.O.Hears.says c.runs.observers) (g.O.Hears.says c.args.observers.now) c.runs.invariant.fixed) c.in_ok-run_next.ensures.runs in
    record {
      so_far = (
        before.0 ++ next.0 ∷ [],
        executes_more (g.O.Hears.says c.args.observers.now) before.0 next.0 c.args.self.now c.runs.self c.run_next.new.self
            (g.O.Hears.told c.args.observers.now) (g.O.Hears.told c.runs.observers) (g.O.Hears.told c.run_next.new.observers) before.1 next.1,
      );
      fixed = λ k s. c.run_next.ensures.fixed k s ∙ c.runs.invariant.fixed k s;
      same = λ first s. c.run_next.ensures.same first (c.runs.invariant.same first s);
    }

pub runs-smaller : goal.runs-smaller
runs-smaller g c =
    let next = next_row_ran (g.O.Hears.says c.runs.observers) (g.O.Hears.says c.runs.observers) c.in_ok-run_next.field-0 c.runs.self
    c.run_next.new.self (g.O.Hears.told c.runs.observers) (g.O.Hears.told c.run_next.new.observers) c.if-branch.true refl
    c.in_ok-run_next.ensures.runs in
    fewer_left (g.O.Hears.says c.runs.observers) next.0 c.runs.self c.run_next.new.self (g.O.Hears.told c.runs.observers)
    (g.O.Hears.told c.run_next.new.observers) next.1 c.run_next.ensures.few

pub returns-clause-runs : goal.returns-clause-runs
returns-clause-runs g c =
    let rest = none_ran (g.O.Hears.says c.runs.observers) c.in_ok-run_next.field-0 c.runs.self c.run_next.new.self
    (g.O.Hears.told c.runs.observers) (g.O.Hears.told c.run_next.new.observers) c.if-branch.false c.in_ok-run_next.ensures.runs in
    resumed (g.O.Hears.says c.args.observers.now) c.args.self.now c.runs.self c.run_next.new.self (g.O.Hears.told c.args.observers.now)
    (g.O.Hears.told c.runs.observers) (g.O.Hears.told c.run_next.new.observers) c.runs.invariant.so_far rest.1 rest.2 rest.0
