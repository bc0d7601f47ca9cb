use Rattle.std.proofs.Common.{◌∷◌, rules}
use Rattle.serde_json.specs.Data.{string}
use Rattle.rl_wire.specs.Payload.{payload_values}
use Rattle.rl_wire.proofs.PrintedLemmas.{written}
use Rattle.rl_wire.proofs.values.add_module.Goals as goal

pub returns-clause-text : goal.returns-clause-text
returns-clause-text c =
    written _ _ _ _ (string c.args.key.now ∷ payload_values c.args.script.now c.args.styles.now c.args.messages.now) (search rules) (search rules)
    c.text_of.ensures
