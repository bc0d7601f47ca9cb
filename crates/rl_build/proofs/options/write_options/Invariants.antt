use Rattle.std.proofs.Common.{◌≡◌, ◌++◌, drop}
use Rattle.json.specs.Tree.{members_tokens}
use Rattle.serde_json.specs.Written.{members_outline}
use Rattle.rl_wire.specs.Message.{members_of, messages_value}
use Rattle.rl_wire.specs.Tokens.{value_tokens}
use Rattle.rl_build.proofs.options.write_options.Given as goal

-- with the tokens of what is left, the object is whole
abbrev pub invariant-options : goal.invariant-options
invariant-options l = record {
  before : l.json.before ≡ l.fn.json.before;
  tokens : l.json.tokens ++ members_tokens (members_outline (members_of (drop l.option-index l.options))) ≡ l.fn.json.tokens
      ++ value_tokens (messages_value l.options);
}
