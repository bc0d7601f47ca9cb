use Rattle.std.proofs.Common.{◌≡◌, map}
use Rattle.std.specs.List.{range_with_len}
use Rattle.rl_states.specs.Standings.{begun}
use Rattle.rl_states.proofs.standing.begin.Given as goal

abbrev pub invariant-loop-row : goal.invariant-loop-row
invariant-loop-row l = l.standings.items ≡ map (begun l.registry) (range_with_len 0 l.row)
