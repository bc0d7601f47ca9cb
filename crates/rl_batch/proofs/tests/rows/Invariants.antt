use Rattle.std.proofs.Common.{IsTrue, not}
use Rattle.std.specs.List.{list_all}
use Rattle.rl_view_spec.specs.Rows.{is_private, AreRegistrable}
use Rattle.rl_batch.proofs.tests.rows.Given as goal

abbrev pub invariant-loop-name : goal.invariant-loop-name
invariant-loop-name l = AreRegistrable l.rows.items × IsTrue (list_all (λ row. not (is_private row.group)) l.rows.items)
