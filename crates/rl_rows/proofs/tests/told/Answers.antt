use Rattle.std.proofs.Common.{sym}
use Rattle.rl_view_spec.specs.Breach.{repeated}
use Rattle.rl_view_spec.proofs.ResolveLemmas.{least_none}
use Rattle.rl_rows.proofs.RowsReadLemmas.{distinct_from_once}
use Rattle.rl_rows.proofs.tests.told.Goals as goal

pub all_edges-requires-clause-distinct : goal.all_edges-requires-clause-distinct
all_edges-requires-clause-distinct c = distinct_from_once c.args.rows.now (least_none (repeated c.args.rows.now) (sym c.in_default.ensures))

pub find-b-requires-clause-distinct : goal.find-b-requires-clause-distinct
find-b-requires-clause-distinct c = distinct_from_once c.args.rows.now (least_none (repeated c.args.rows.now) (sym c.in_default.ensures))
