use Rattle.std.proofs.Common.{◌≡◌, ◌++◌, [], take}
use Rattle.std.specs.Prelude.{codes, flat_map, if◌then◌else◌}
use Rattle.rl_view_spec.specs.Progress.{has_run, row_numbers}
use Rattle.rl_script_spec.specs.Output.{line}
use Rattle.rl_drive.specs.Played.{run_at}
use Rattle.rl_drive.specs.Player.{held}
use Rattle.rl_drive.proofs.player.Player.write_executed.Given as goal

abbrev pub invariant-loop-row : goal.invariant-loop-row
invariant-loop-row l =
    l.out.items ≡ l.fn.out.items ++ flat_map (λ row. if has_run l.self.table row then
    line (codes "executed " ++ run_at l.self.table (held l.self) row) else []) (take l.row (row_numbers l.self.table.registered))
