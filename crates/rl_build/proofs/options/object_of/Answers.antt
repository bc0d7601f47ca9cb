use Rattle.std.proofs.Common.{◌≡◌, ◌∙◌, rules, string_bytes}
use Rattle.json.specs.Print.{print}
use Rattle.rl_wire.specs.Message.{messages_value}
use Rattle.rl_wire.specs.Tokens.{value_tokens}
use Rattle.serde_json.proofs.Texts.{print-outline}
use Rattle.rl_build.proofs.options.object_of.Goals as goal

pub returns : goal.returns
returns c =
    let shown : string_bytes c.in-Ok.text ≡ print (value_tokens (messages_value c.args.options.now)) = search rules in
    shown ∙ print-outline (messages_value c.args.options.now)
