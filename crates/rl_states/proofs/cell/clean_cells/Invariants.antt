use Rattle.std.proofs.Common.{◌≡◌, map, take}
use Rattle.rl_states.specs.Counted.{clean_cell}
use Rattle.rl_states.proofs.cell.clean_cells.Given as goal

abbrev pub invariant-loop-standing : goal.invariant-loop-standing
invariant-loop-standing l = l.cells.items ≡ map clean_cell (take l.standing-index l.standings)
