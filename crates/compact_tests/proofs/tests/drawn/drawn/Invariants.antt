use Rattle.rl_view_spec.specs.Rows.{AreRegistrable}
use Rattle.compact_tests.proofs.tests.drawn.drawn.Given as goal

abbrev pub invariant-loop-at : goal.invariant-loop-at
invariant-loop-at l = AreRegistrable l.rows.items
