use Rattle.std.specs.Prelude.{◌≡◌, None}
use Rattle.rl_states.proofs.tests.least_rows.Given as goal

abbrev pub invariant-loop-row : goal.invariant-loop-row
invariant-loop-row g l = l.table.executing ≡ None

abbrev pub invariant-loop-want : goal.invariant-loop-want
invariant-loop-want g l = l.table.executing ≡ None
