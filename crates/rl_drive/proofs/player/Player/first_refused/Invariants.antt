use Rattle.std.proofs.Common.{◌≡◌, ◌+◌, drop}
use Rattle.rl_script_spec.specs.Unready.{first_refused}
use Rattle.rl_drive.specs.Blamed.{AsSeen}
use Rattle.rl_drive.proofs.player.Player.first_refused.Given as goal

abbrev pub invariant-loop-index : goal.invariant-loop-index
invariant-loop-index l =
    AsSeen l.self (λ v past. first_refused v.registered (l.index + 1) (drop l.index l.steps) ≡ first_refused v.registered 1 l.steps)
