use Rattle.std.proofs.Common.{◌<◌, length, sym, arith}
use Rattle.std.proofs.lemmas.List.{map_more}
use Rattle.rl_states.specs.Counted.{clean_cell}
use Rattle.rl_states.proofs.cell.clean_cells.Goals as goal

pub loop-standing-preserved : goal.loop-standing-preserved
loop-standing-preserved c =
    let i : c.loop-standing.standing-index < length c.args.standings.now = omega arith in
    rw (c.in_ok-push.ensures.items, c.loop-standing.invariant) (sym (map_more clean_cell c.args.standings.now c.loop-standing.standing-index _ i))
