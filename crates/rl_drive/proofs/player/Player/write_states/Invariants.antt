use Rattle.std.proofs.Common.{◌≡◌, ◌++◌, [], take}
use Rattle.std.specs.Prelude.{flat_map, if◌then◌else◌}
use Rattle.rl_view_spec.specs.Progress.{is_touched_at, row_numbers}
use Rattle.rl_drive.specs.Played.{state_at}
use Rattle.rl_drive.proofs.player.Player.write_states.Given as goal

abbrev pub invariant-loop-row : goal.invariant-loop-row
invariant-loop-row l =
    l.out.items ≡ l.fn.out.items ++ flat_map (λ row. if is_touched_at l.self.table row then state_at l.self.table row else [])
    (take l.row (row_numbers l.self.table.registered))
