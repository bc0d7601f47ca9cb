use Rattle.std.proofs.Common.{◌≡◌, ◌∙◌, rules}
use Rattle.std.specs.Prelude.{fold}
use Rattle.form_urlencoded.specs.Form.{raw_pairs}
use Rattle.rl_names.specs.QuerySteps.{no_query, noted_pair}
use Rattle.rl_names.proofs.QueryLemmas.{noted_query}
use Rattle.rl_names.proofs.query.Query.read.Goals as goal

pub returns : goal.returns
returns c =
    let whole : c.pairs.query ≡ fold noted_pair no_query (raw_pairs c.args.bytes.now) = search rules in
    whole ∙ noted_query c.args.bytes.now
