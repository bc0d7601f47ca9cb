use Rattle.std.proofs.Common.{◌≡◌, ◌++◌, drop}
use Rattle.json.specs.Tree.{members_tokens}
use Rattle.serde_json.specs.Written.{members_outline}
use Rattle.rl_wire.specs.Line.{AreTexts}
use Rattle.rl_wire.specs.Message.{members_of, messages_value}
use Rattle.rl_wire.specs.Tokens.{value_tokens}
use Rattle.rl_wire.proofs.values.write_messages.Given as goal

-- with the tokens of what is left, the object is whole; where what is left are texts, all are
abbrev pub invariant-messages : goal.invariant-messages
invariant-messages l = record {
  before : l.json.before ≡ l.fn.json.before;
  tokens : l.json.tokens ++ members_tokens (members_outline (members_of (drop l.message-index l.messages))) ≡ l.fn.json.tokens
      ++ value_tokens (messages_value l.messages);
  texts : AreTexts (drop l.message-index l.messages) → AreTexts l.messages;
}
