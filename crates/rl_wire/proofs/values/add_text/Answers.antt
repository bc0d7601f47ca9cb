use Rattle.std.proofs.Common.{◌∷◌, [], rules}
use Rattle.serde_json.specs.Data.{string}
use Rattle.rl_wire.proofs.PrintedLemmas.{written}
use Rattle.rl_wire.proofs.values.add_text.Goals as goal

pub returns : goal.returns
returns c = written _ _ _ _ (string c.args.text.now ∷ []) (search rules) (search rules) c.text_of.ensures
