use Rattle.std.specs.Prelude.{◌≡◌, None}
use Rattle.rl_states.proofs.tests.played.Given as goal

abbrev pub invariant-loop-word : goal.invariant-loop-word
invariant-loop-word g l = l.table.executing ≡ None
