use Rattle.std.proofs.Common.{◌≡◌, ◌++◌, drop}
use Rattle.rl_rows.specs.Edges.{skips_of}
use Rattle.rl_rows.proofs.rows.skips_of.Given as goal

abbrev pub invariant-loop-row : goal.invariant-loop-row
invariant-loop-row l = l.skips.items ++ skips_of (record { rows = drop l.row-index l.rows; features = l.features })
    ≡ skips_of (record { rows = l.rows; features = l.features })
