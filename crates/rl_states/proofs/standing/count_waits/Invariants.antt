use Rattle.std.proofs.Common.{◌≡◌}
use Rattle.rl_states.specs.Standings.{for_rows}
use Rattle.rl_states.proofs.StandingsLemmas.{counting}
use Rattle.rl_states.proofs.standing.count_waits.Given as goal

abbrev pub invariant-loop-row : goal.invariant-loop-row
invariant-loop-row l = l.standings ≡ for_rows l.registry (counting l.registry l.row)
