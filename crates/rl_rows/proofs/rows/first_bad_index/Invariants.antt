use Rattle.std.proofs.Common.{◌≡◌, drop, length}
use Rattle.std.specs.Prelude.{flat_map}
use Rattle.std.specs.List.{enumerate_from}
use Rattle.rl_view_spec.specs.Breach.{bad_indexes, bad_indexes_of}
use Rattle.rl_rows.proofs.rows.first_bad_index.Given as goal

abbrev pub invariant-loop-at : goal.invariant-loop-at
invariant-loop-at l = flat_map (bad_indexes_of (length l.rows)) (enumerate_from l.at (drop l.at l.rows)) ≡ bad_indexes l.rows
