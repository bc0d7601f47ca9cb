use Rattle.std.proofs.Common.{◌≡◌, ◌++◌, drop, map}
use Rattle.json.specs.Tree.{items_tokens}
use Rattle.serde_json.specs.Data.{string}
use Rattle.serde_json.specs.Written.{items_outline}
use Rattle.rl_steps.specs.Spelling.{texts_value}
use Rattle.rl_wire.specs.Payload.{items_of}
use Rattle.rl_wire.specs.Tokens.{value_tokens}
use Rattle.rl_steps.proofs.write.write_texts.Given as goal

-- with the tokens of what is left, the array is whole
abbrev pub invariant-texts : goal.invariant-texts
invariant-texts l = record {
  before : l.json.before ≡ l.fn.json.before;
  tokens : l.json.tokens ++ items_tokens (items_outline (items_of (map string (drop l.text-index l.texts)))) ≡ l.fn.json.tokens
      ++ value_tokens (texts_value l.texts);
}
