use Rattle.std.proofs.Common.{◌≡◌, ◌++◌, drop}
use Rattle.json.specs.Tree.{members_tokens}
use Rattle.serde_json.specs.Data.{object}
use Rattle.serde_json.specs.Written.{members_outline}
use Rattle.rl_wire.specs.Tokens.{value_tokens}
use Rattle.rl_store.specs.Stock.{items_of, AreOrdered}
use Rattle.rl_store.proofs.writing.write_items.Given as goal

-- with the tokens of what is left, the object is whole
abbrev pub invariant-pairs : goal.invariant-pairs
invariant-pairs l = record {
  before : l.json.before ≡ l.fn.json.before;
  tokens : l.json.tokens ++ members_tokens (members_outline (items_of (drop l.stored-index l.pairs))) ≡ l.fn.json.tokens
      ++ value_tokens (object (items_of l.pairs));
  ordered : AreOrdered (drop l.stored-index l.pairs);
}
