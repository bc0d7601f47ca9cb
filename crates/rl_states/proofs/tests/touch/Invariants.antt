use Rattle.std.specs.Prelude.{◌≡◌, None}
use Rattle.rl_states.proofs.tests.touch.Given as goal

abbrev pub invariant-loop-row : goal.invariant-loop-row
invariant-loop-row g l = (l.table.executing ≡ None) × (l.table.registered ≡ l.fn.table.registered)
