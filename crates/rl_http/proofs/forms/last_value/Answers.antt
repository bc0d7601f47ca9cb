use Rattle.std.proofs.Common.{◌≡◌, ◌∙◌, [], rules}
use Rattle.std.specs.Prelude.{fold}
use Rattle.form_urlencoded.specs.Form.{raw_pairs}
use Rattle.rl_http.specs.Forms.{later_value}
use Rattle.rl_http.proofs.FormsLemmas.{last_folded}
use Rattle.rl_http.proofs.forms.last_value.Goals as goal

pub returns : goal.returns
returns c =
    let whole : c.pairs.found ≡ fold (later_value c.args.name.now) [] (raw_pairs c.args.form.now) = search rules in
    whole ∙ last_folded c.args.form.now c.args.name.now
