use Rattle.rl_view_spec.specs.Rows.{AreRegistrable}
use Rattle.compact_tests.proofs.tests.rows.Given as goal

abbrev pub invariant-loop-text : goal.invariant-loop-text
invariant-loop-text l = AreRegistrable l.rows.items
