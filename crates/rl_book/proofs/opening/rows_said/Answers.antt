use Rattle.std.proofs.Common.{List, sym, subst}
use Rattle.rl_names.specs.declared.row.Row.{Row}
use Rattle.rl_view_spec.specs.Rows.{AreRegistrable}
use Rattle.rl_book.proofs.OpeningLemmas.{writable_registrable}
use Rattle.rl_book.proofs.opening.rows_said.Goals as goal

pub returns-in-Ok-clause-registrable : goal.returns-in-Ok-clause-registrable
returns-in-Ok-clause-registrable c =
    subst (λ (rows : List Row). AreRegistrable rows) (sym c.into_vec.ensures) (writable_registrable c.in-Ok.said.rows c.in-Ok.ensures.writable.rows)
