use Rattle.std.specs.Prelude.{◌≡◌, None}
use Rattle.rl_states.proofs.tests.run_all.Given as goal

abbrev pub invariant-loop-turn : goal.invariant-loop-turn
invariant-loop-turn g l = l.table.executing ≡ None
