use Rattle.std.proofs.Common.{◌≡◌, ◌++◌, Some, ap, refl, ◌∙◌}
use Rattle.rl_view_spec.specs.Closure.{Text}
use Rattle.rl_script_spec.specs.Output.{line}
use Rattle.rl_view.specs.Heard.{watched}
use Rattle.rl_view.proofs.RunsLemmas.{left_ran}
use Rattle.rl_drive.specs.Played.{run_at}
use Rattle.rl_drive.specs.Player.{Ran, held}
use Rattle.rl_drive.proofs.HearingLemmas.{same_says}
use Rattle.rl_drive.proofs.RunningLemmas.{dues_begin, dues_end, dues_next, on_any_err, ran_none, ran_some, stops_after, stops_before}
use Rattle.rl_drive.proofs.player.Player.run_due.Goals as goal

pub runs-init : goal.runs-init
runs-init g c = record {
  so_far = λ r event past due. dues_begin (watched (g.O.Hears.says c.args.observers.now) r) event past c.args.self.now c.args.out.now.items
      (g.O.Hears.told c.args.observers.now) due;
  fixed = λ k s. refl;
  same = λ first s. s;
}

pub returns-in_err-row-clause-stops : goal.returns-in_err-row-clause-stops
returns-in_err-row-clause-stops g c =
    on_any_err c.from_residual.result
    (stops_before (g.O.Hears.says c.args.observers.now) c.args.self.now c.runs.self c.args.out.now.items c.runs.out.items
    (g.O.Hears.told c.args.observers.now) (g.O.Hears.told c.runs.observers) (g.O.Hears.told c.run_next.new.observers)
    c.runs.invariant.so_far c.in_err-row.ensures.runs)

pub runs-smaller : goal.runs-smaller
runs-smaller g c =
    let some : c.in_ok-row.field-0 ≡ Some (c.in-Some.row, c.in-Some.threw) = cc in
    let ran : Ran (g.O.Hears.says c.runs.observers) c.in-Some.row c.in-Some.threw c.runs.self c.run_next.new.self (g.O.Hears.told c.runs.observers)
    (g.O.Hears.told c.run_next.new.observers) =
    ran_some (g.O.Hears.says c.runs.observers) (g.O.Hears.says c.runs.observers) c.in_ok-row.field-0 c.in-Some.row c.in-Some.threw c.runs.self
    c.run_next.new.self (g.O.Hears.told c.runs.observers) (g.O.Hears.told c.run_next.new.observers) some refl c.in_ok-row.ensures.runs in
    left_ran c.runs.self.table c.run_next.new.self.table c.in-Some.row c.in-Some.threw ran.next ran.table

pub runs-preserved : goal.runs-preserved
runs-preserved g c =
    let some : c.in_ok-row.field-0 ≡ Some (c.in-Some.row, c.in-Some.threw) = cc in
    record {
      so_far = dues_next (g.O.Hears.says c.args.observers.now) c.in-Some.row c.in-Some.threw c.args.self.now c.runs.self c.run_next.new.self
          c.args.out.now.items c.runs.out.items c.write_run.new.out.items (g.O.Hears.told c.args.observers.now) (g.O.Hears.told c.runs.observers)
          (g.O.Hears.told c.run_next.new.observers) c.runs.invariant.so_far
          (ran_some (g.O.Hears.says c.runs.observers) (g.O.Hears.says c.args.observers.now) c.in_ok-row.field-0 c.in-Some.row c.in-Some.threw
          c.runs.self c.run_next.new.self (g.O.Hears.told c.runs.observers) (g.O.Hears.told c.run_next.new.observers) some
          (same_says (g.O.Hears.says c.runs.observers) (g.O.Hears.says c.args.observers.now) c.runs.invariant.fixed) c.in_ok-row.ensures.runs)
          (c.in_ok-write_run.ensures
          ∙ ap (λ (word : Text). c.runs.out.items ++ line (word ++ run_at c.run_next.new.self.table (held c.run_next.new.self) c.in-Some.row))
          c.word_of.ensures);
      fixed = λ k s. c.run_next.ensures.fixed k s ∙ c.runs.invariant.fixed k s;
      same = λ first s. c.run_next.ensures.same first (c.runs.invariant.same first s);
    }

pub returns-in_err-write_run-clause-stops : goal.returns-in_err-write_run-clause-stops
returns-in_err-write_run-clause-stops g c =
    let some : c.in_ok-row.field-0 ≡ Some (c.in-Some.row, c.in-Some.threw) = cc in
    on_any_err c.from_residual-in_err-write_run.result
    (stops_after (g.O.Hears.says c.args.observers.now) c.in-Some.row c.in-Some.threw c.args.self.now c.runs.self c.run_next.new.self
    c.args.out.now.items c.runs.out.items (g.O.Hears.told c.args.observers.now) (g.O.Hears.told c.runs.observers)
    (g.O.Hears.told c.run_next.new.observers) c.runs.invariant.so_far
    (ran_some (g.O.Hears.says c.runs.observers) (g.O.Hears.says c.args.observers.now) c.in_ok-row.field-0 c.in-Some.row c.in-Some.threw
    c.runs.self c.run_next.new.self (g.O.Hears.told c.runs.observers) (g.O.Hears.told c.run_next.new.observers) some
    (same_says (g.O.Hears.says c.runs.observers) (g.O.Hears.says c.args.observers.now) c.runs.invariant.fixed) c.in_ok-row.ensures.runs))

pub returns-clause-runs : goal.returns-clause-runs
returns-clause-runs g c =
    let rest = ran_none (g.O.Hears.says c.runs.observers) c.in_ok-row.field-0 c.runs.self c.run_next.new.self (g.O.Hears.told c.runs.observers)
    (g.O.Hears.told c.run_next.new.observers) (λ run e. c.in_default.not-Some run e) c.in_ok-row.ensures.runs in
    dues_end (g.O.Hears.says c.args.observers.now) c.args.self.now c.runs.self c.run_next.new.self c.args.out.now.items c.runs.out.items
    (g.O.Hears.told c.args.observers.now) (g.O.Hears.told c.runs.observers) (g.O.Hears.told c.run_next.new.observers) c.runs.invariant.so_far
    rest.0 rest.1 rest.2
