use Rattle.std.proofs.Common.{◌≡◌}
use Rattle.std.specs.Prelude.{fold}
use Rattle.form_urlencoded.specs.Parse.{raw_pairs_left}
use Rattle.form_urlencoded.specs.Form.{raw_pairs}
use Rattle.rl_names.specs.QuerySteps.{no_query, noted_pair}
use Rattle.rl_names.proofs.query.Query.read.Given as goal

-- what is left, from the query so far, gives the whole
abbrev pub invariant-pairs : goal.invariant-pairs
invariant-pairs l = fold noted_pair l.query (raw_pairs_left l.name-iterator) ≡ fold noted_pair no_query (raw_pairs l.bytes)
