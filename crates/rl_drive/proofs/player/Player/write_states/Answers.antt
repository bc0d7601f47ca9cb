use Rattle.std.proofs.Common.{◌<◌, ◌≤◌, ◌∙◌, ℕ, [], length, ap, inl, inr, sym, subst, arith}
use Rattle.std.specs.declared.alloc.Global.{Global}
use Rattle.std.specs.Prelude.{Vec, if◌then◌else◌}
use Rattle.rl_view_spec.specs.Progress.{is_touched_at}
use Rattle.rl_view_spec.specs.Closure.{Text, Registered}
use Rattle.rl_drive.specs.Played.{state_at}
use Rattle.rl_drive.proofs.JoiningLemmas.{rows_all, rows_more, text_if}
use Rattle.rl_drive.proofs.player.Player.write_states.Goals as goal
use Rattle.rl_drive.proofs.player.Player.write_states.Goals.{then-touched+in_ok-write_state, else-touched}

pub loop-row-preserved : goal.loop-row-preserved
loop-row-preserved c =
    let text : ℕ → Text = λ row. if is_touched_at c.args.self.now.table row then state_at c.args.self.now.table row else [] in
    let low : c.loop-row.row < length c.args.self.now.table.registered.rows =
    subst (λ (r : Registered). c.loop-row.row < length r.rows) c.registry.ensures (omega (arith, c.loop-row-test.true, c.count-row-end.ensures.value)) in
    rows_more text c.args.self.now.table.registered c.loop-row.row c.args.out.now.items c.loop-row.out.items c.if-touched.out.items low c.loop-row.invariant
    (text_if (is_touched_at c.args.self.now.table c.loop-row.row) (state_at c.args.self.now.table c.loop-row.row) c.loop-row.out.items c.if-touched.out.items
    (elim c.if-touched.branch [
      | then-touched+in_ok-write_state w ↦ inl
          (sym c.touched.ensures ∙ w.if-touched.true, ap (λ (v : Vec ℕ Global). v.items) w.out-is ∙ w.in_ok-write_state.ensures)
      | else-touched w ↦ inr
          (sym c.touched.ensures ∙ w.if-touched.false, ap (λ (v : Vec ℕ Global). v.items) w.out-is)
    ]))

pub returns : goal.returns
returns c =
    let text : ℕ → Text = λ row. if is_touched_at c.args.self.now.table row then state_at c.args.self.now.table row else [] in
    let high : length c.args.self.now.table.registered.rows ≤ c.loop-row.row =
    subst (λ (r : Registered). length r.rows ≤ c.loop-row.row) c.registry.ensures (omega (arith, c.loop-row-test.false, c.count-row-end.ensures.value)) in
    rows_all text c.args.self.now.table.registered c.loop-row.row c.args.out.now.items c.loop-row.out.items high c.loop-row.invariant
