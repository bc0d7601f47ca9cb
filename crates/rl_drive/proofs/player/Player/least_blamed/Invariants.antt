use Rattle.std.proofs.Common.{◌≡◌, None, drop}
use Rattle.std.specs.Prelude.{option_map}
use Rattle.rl_rows.specs.Least.{least_from}
use Rattle.rl_drive.specs.Blamed.{blamed_at}
use Rattle.rl_drive.specs.Player.{held}
use Rattle.rl_drive.proofs.player.Player.least_blamed.Given as goal

abbrev pub invariant-loop-row : goal.invariant-loop-row
invariant-loop-row l =
    least_from (option_map (λ name. name.now) l.found) (blamed_at l.self.table (held l.self) (drop l.row-index l.rows))
    ≡ least_from None (blamed_at l.self.table (held l.self) l.rows)
