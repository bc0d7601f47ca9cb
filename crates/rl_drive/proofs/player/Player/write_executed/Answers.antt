use Rattle.std.proofs.Common.{◌<◌, ◌≤◌, ◌∙◌, ◌++◌, ℕ, [], length, ap, inl, inr, sym, subst, arith}
use Rattle.std.specs.declared.alloc.Global.{Global}
use Rattle.std.specs.Prelude.{Vec, codes, if◌then◌else◌}
use Rattle.rl_view_spec.specs.Progress.{has_run}
use Rattle.rl_view_spec.specs.Closure.{Text, Registered}
use Rattle.rl_script_spec.specs.Output.{line}
use Rattle.rl_drive.specs.Played.{run_at}
use Rattle.rl_drive.specs.Player.{held}
use Rattle.rl_drive.proofs.JoiningLemmas.{rows_all, rows_more, text_if}
use Rattle.rl_drive.proofs.player.Player.write_executed.Goals as goal
use Rattle.rl_drive.proofs.player.Player.write_executed.Goals.{then-has_run+in_ok-write_run, else-has_run}

pub loop-row-preserved : goal.loop-row-preserved
loop-row-preserved c =
    let text : ℕ → Text = λ row. if has_run c.args.self.now.table row then
    line (codes "executed " ++ run_at c.args.self.now.table (held c.args.self.now) row) else [] in
    let low : c.loop-row.row < length c.args.self.now.table.registered.rows =
    subst (λ (r : Registered). c.loop-row.row < length r.rows) c.registry.ensures (omega (arith, c.loop-row-test.true, c.count-row-end.ensures.value)) in
    rows_more text c.args.self.now.table.registered c.loop-row.row c.args.out.now.items c.loop-row.out.items c.if-has_run.out.items low c.loop-row.invariant
    (text_if (has_run c.args.self.now.table c.loop-row.row) (line
    (codes "executed " ++ run_at c.args.self.now.table (held c.args.self.now) c.loop-row.row)) c.loop-row.out.items c.if-has_run.out.items
    (elim c.if-has_run.branch [
      | then-has_run+in_ok-write_run w ↦ inl
          (sym c.has_run.ensures ∙ w.if-has_run.true, ap (λ (v : Vec ℕ Global). v.items) w.out-is ∙ w.in_ok-write_run.ensures)
      | else-has_run w ↦ inr
          (sym c.has_run.ensures ∙ w.if-has_run.false, ap (λ (v : Vec ℕ Global). v.items) w.out-is)
    ]))

pub returns : goal.returns
returns c =
    let text : ℕ → Text = λ row. if has_run c.args.self.now.table row then
    line (codes "executed " ++ run_at c.args.self.now.table (held c.args.self.now) row) else [] in
    let high : length c.args.self.now.table.registered.rows ≤ c.loop-row.row =
    subst (λ (r : Registered). length r.rows ≤ c.loop-row.row) c.registry.ensures (omega (arith, c.loop-row-test.false, c.count-row-end.ensures.value)) in
    rows_all text c.args.self.now.table.registered c.loop-row.row c.args.out.now.items c.loop-row.out.items high c.loop-row.invariant
