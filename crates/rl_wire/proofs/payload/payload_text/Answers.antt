use Rattle.std.proofs.Common.{◌≡◌, ◌++◌, ◌∷◌, [], ap, ◌∙◌, rules, string_bytes}
use Rattle.json.specs.Token.{begin_array, end_array}
use Rattle.json.specs.Print.{print}
use Rattle.serde_json.specs.Read.{read}
use Rattle.rl_wire.specs.Payload.{payload_values}
use Rattle.rl_wire.specs.Tokens.{values_tokens}
use Rattle.rl_wire.proofs.PrintedLemmas.{print-array}
use Rattle.rl_wire.proofs.ReadBackLemmas.{payload_reads_back}
use Rattle.rl_wire.proofs.payload.payload_text.Goals as goal

written : goal.returns-clause-text
written c =
    let values = payload_values c.args.script.now c.args.styles.now c.args.messages.now in
    let shown : string_bytes c.text_of.result ≡ print (begin_array ∷ (values_tokens values ++ end_array ∷ [])) = search rules in
    c.from_string.ensures ∙ shown ∙ print-array values

pub returns-clause-text : goal.returns-clause-text
returns-clause-text c = written c

pub returns-clause-reads_back : goal.returns-clause-reads_back
returns-clause-reads_back c =
    ap read (written c) ∙ payload_reads_back c.args.script.now c.args.styles.now c.args.messages.now c.requires
