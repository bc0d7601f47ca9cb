use Rattle.std.proofs.Common.{◌≡◌, take}
use Rattle.std.specs.Prelude.{filter}
use Rattle.rl_view_spec.specs.Closure.{resolves}
use Rattle.rl_drive.proofs.player.Player.accepted.Given as goal

abbrev pub invariant-loop-name : goal.invariant-loop-name
invariant-loop-name l = l.accepted.items ≡ filter (resolves l.self.table.registered) (take l.name-index l.names)
