use Rattle.std.proofs.Common.{codes, string_bytes, ◌++◌, ap, ◌∙◌, ◌∷◌}
use Rattle.serde_json.specs.Data.{string}
use Rattle.rl_wire.specs.Payload.{payload_values}
use Rattle.rl_wire.specs.Line.{arguments_text, implement_arguments}
use Rattle.rl_wire.proofs.AppendingLemmas.{append_then}
use Rattle.rl_wire.proofs.line.add_implementation.Goals as goal

pub returns-clause-text : goal.returns-clause-text
returns-clause-text c =
    let values = payload_values c.args.script.now c.args.styles.now c.args.messages.now in
    append_then _ (codes "mw.loader.implement(") _ _ _ c.in_ok-push_str.ensures.bytes
    (append_then _ (arguments_text (implement_arguments c.args.name.now c.args.version.now c.args.script.now c.args.styles.now c.args.messages.now))
    (codes ");") _ _
    (c.in_ok-add_module.ensures.text ∙ ap (λ key. string_bytes c.push_str.new.self ++ arguments_text (string key ∷ values))
    (c.as_str.ensures.value ∙ c.in_ok-key.ensures)) c.in_ok-push_str-2.ensures.bytes)
