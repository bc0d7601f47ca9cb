use Rattle.rl_view_spec.specs.Rows.{AreRegistrable}
use Rattle.rl_store.proofs.tests.rows.Given as goal

abbrev pub invariant-loop-name : goal.invariant-loop-name
invariant-loop-name l = AreRegistrable l.rows.items
